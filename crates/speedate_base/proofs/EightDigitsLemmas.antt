-- The digits at the front of eight bytes of a text are those of a run of the text.
use Rattle.std.proofs.Common.{rules, ◌≡◌, ◌∙◌, ap, refl, ℕ, zero, suc, ◌+◌, ◌≤◌, List, [], ◌∷◌, length, take, drop, min, replicate, arith, drop-drop, length-drop}
use Rattle.std.specs.Char.{is_ascii_digit}
use Rattle.std.specs.List.{prefix_len}
use Rattle.std.proofs.lemmas.List.Sums.{prefix_len-le-length}
use Rattle.speedate_base.specs.Ascii.{digit_zero}
use Rattle.speedate_base.specs.Digits.{fit_length, run_length, run_digits, fraction_value, eight_at}
use Rattle.speedate_base.proofs.PatternLemmas.{eight_at-drop}

-- the first `count` bytes of a text, and 0 where it has none
abbrev first : ℕ → List ℕ → List ℕ
first zero text = []
first (suc count) [] = 0 ∷ first count []
first (suc count) (byte ∷ text) = byte ∷ first count text

eight-first : (text : List ℕ) → eight_at text 0 ≡ first 8 text
eight-first text = search rules

-- a run goes as far in them as in the text
first-run : (count : ℕ) (text : List ℕ)
    → prefix_len is_ascii_digit (first count text) ≡ min count (prefix_len is_ascii_digit text)
first-run zero text = omega arith
first-run (suc count) [] = omega arith
first-run (suc count) (byte ∷ text) = grind (arith, first-run count text)

-- and its digits are the same
first-digits : (count places : ℕ) (text : List ℕ) → count ≤ places
    → count ≤ prefix_len is_ascii_digit text → take count (first places text) ≡ take count text
first-digits zero places text few enough = refl
first-digits (suc count) zero text few enough = absurd (omega arith)
first-digits (suc count) (suc places) [] few enough = absurd (omega arith)
first-digits (suc count) (suc places) (byte ∷ text) few enough =
    grind (arith, first-digits count places text)

-- what is known of the eight bytes from a place on
pub record Known (text front : List ℕ) (place count : ℕ) : Type 0 where
  pub counted : count ≡ min 8 (run_length text place)
  pub digits : take count front ≡ take count (drop place text)

pub known : (text front : List ℕ) (place count : ℕ) → front ≡ eight_at text place
    → count ≡ prefix_len is_ascii_digit front → Known text front place count
known text front place count from counted =
    let rest : List ℕ = drop place text in
    let are = from ∙ eight_at-drop place text ∙ eight-first rest in
    let run = counted ∙ ap (prefix_len is_ascii_digit) are ∙ first-run 8 rest in
    let same = first-digits count 8 rest (omega (arith, run)) (omega (arith, run)) in
    record { counted = run; digits = ap (take count) are ∙ same }

-- so many digits lie within the text, and fit as many zeros of a pattern
pub known-within : (text front : List ℕ) (place count : ℕ) → Known text front place count
    → place ≤ length text → place + count ≤ length text
known-within text front place count is there = search (rules, prefix_len-le-length, length-drop)

pub fit-run : (places : ℕ) (bytes : List ℕ)
    → fit_length (replicate places digit_zero) bytes ≡ min places (prefix_len is_ascii_digit bytes)
fit-run zero bytes = omega arith
fit-run (suc places) [] = omega arith
fit-run (suc places) (byte ∷ bytes) = grind (arith, fit-run places bytes)

-- and after them the run goes on
run-longer : (count : ℕ) (bytes : List ℕ) → count ≤ prefix_len is_ascii_digit bytes
    → prefix_len is_ascii_digit bytes ≡ count + prefix_len is_ascii_digit (drop count bytes)
run-longer zero bytes enough = omega arith
run-longer (suc count) [] enough = absurd (omega arith)
run-longer (suc count) (byte ∷ bytes) enough = grind (arith, run-longer count bytes)

pub known-more : (text front : List ℕ) (place : ℕ) → Known text front place 8
    → run_length text place ≡ 8 + run_length text (place + 8)
known-more text front place is =
    let longer = run-longer 8 (drop place text) (omega (arith, is.counted)) in
    longer ∙ ap (λ (rest : List ℕ). 8 + prefix_len is_ascii_digit rest) (drop-drop 8 place text)

-- what a run means, if they have all of it
pub run-value : (text front : List ℕ) (place count : ℕ) → Known text front place count
    → count ≡ run_length text place
    → fraction_value 6 (take count front) ≡ fraction_value 6 (run_digits text place)
run-value text front place count is run = search rules
