-- A decimal's parts are its text, and texts that are no numbers.
use Rattle.std.proofs.Common.{◌≡◌, ℕ, ◌+◌, ◌-◌, ◌<◌, ◌≤◌, Bool, true, false, ◌&&◌, ◌==◌, List, [], ◌∷◌, ◌++◌, length, take, drop, slice_index, if◌then◌else◌, Option, Some, None, ℤ, refl, arith, rules, ap, sym, ◌∙◌, append_assoc, get_or}
use Rattle.std.specs.Char.{is_ascii_digit}
use Rattle.std.specs.List.{list_all, prefix_len}
use Rattle.std.proofs.lemmas.Bool.{eqb-true, and_parts, false≢true}
use Rattle.std.proofs.lemmas.List.Sums.{prefix_len_passes, take_while-cons}
use Rattle.std.proofs.lemmas.List.{get_or-drop, take-append-drop, drop-drop, drop_more, take_all, length-drop, length-take-le}
use Rattle.speedate_base.specs.Ascii.{full_stop}
use Rattle.speedate_base.specs.Digits.{run_length, run_digits}
use Rattle.speedate_base.specs.Numbers.{has_minus, sign_size, point_place, is_decimal}
use Rattle.speedate_base.specs.Numbers.{decimal_parts, IsSign, JoinsTo, DecimalParts, Fractional}
use Rattle.speedate_base.specs.Numbers.{NoNumber, whole_or, whole_number, number_answer}
use Rattle.speedate_base.specs.Numbers.{decimal_value, number_value, JoinsToFloat, IntFloat}

-- a run is made of digits
pub run-digits : (bytes : List ℕ)
    → list_all is_ascii_digit (take (prefix_len is_ascii_digit bytes) bytes) ≡ true
run-digits [] = refl
run-digits (byte ∷ bytes) =
    grind (arith, take_while-cons is_ascii_digit byte bytes, run-digits bytes)

pub front_digits : (bytes : List ℕ) (count : ℕ) → count ≡ prefix_len is_ascii_digit bytes
    → list_all is_ascii_digit (take count bytes) ≡ true
front_digits bytes count is = rw is (run-digits bytes)

pub ruleset part_rules = (front_digits, length-drop, length-take-le)

-- a text begins with its sign
pub sign-of_text : (text : List ℕ) → IsSign (has_minus text) (take (sign_size text) text)
sign-of_text text = search rules

-- a decimal's sign, digits, point and digits are its text
pub decimal_parts-join : (text : List ℕ) → is_decimal text ≡ true
    → JoinsTo (decimal_parts text) text
decimal_parts-join text is =
    let start = sign_size text in
    let point = point_place text in
    let has_point = slice_index text point == full_stop in
    let count = run_length text (point + 1) in
    let first = and_parts (has_point && (point + 1 + count == length text)) _ is in
    let tests = and_parts has_point _ first.0 in
    let dot = eqb-true (slice_index text point) full_stop tests.0 in
    let ends = eqb-true (point + 1 + count) (length text) tests.1 in
    let within : point < length text = omega arith in
    let sign = take start text in
    let unsigned = drop start text in
    let rest = drop (point + 1) text in
    let whole = run_digits text start in
    let fraction = run_digits text (point + 1) in
    let all : length rest ≤ count = omega (arith, length-drop (point + 1) text) in
    let is_rest : fraction ≡ rest = take_all count rest all in
    let pointed = ap (λ (byte : ℕ). byte ∷ rest) dot in
    let behind = drop-drop (run_length text start) start text
    ∙ drop_more text point 0 within
    ∙ pointed
    ∙ ap (λ (bytes : List ℕ). full_stop ∷ bytes) (sym is_rest) in
    let digits = sym (take-append-drop (run_length text start) unsigned)
    ∙ ap (λ (bytes : List ℕ). whole ++ bytes) behind in
    let joined = sym (take-append-drop start text)
    ∙ ap (λ (bytes : List ℕ). sign ++ bytes) digits
    ∙ sym (append_assoc sign whole (full_stop ∷ fraction)) in
    (sign, sign-of_text text, joined)

tested : (d : DecimalParts) (text : List ℕ) (number : Option ℤ) (test : Bool)
    → is_decimal text ≡ test
    → Fractional d ≡ whole_or number (if test then Fractional (decimal_parts text) else NoNumber)
    → JoinsTo d text
tested d text number test is same = search (rules, decimal_parts-join)

-- so what is answered as a decimal joins to its text
pub number_value-joins : (read : IntFloat) (text : List ℕ) → number_value read ≡ number_answer text
    → JoinsToFloat read text
number_value-joins (IntFloat.Int n) text same = tt
number_value-joins (IntFloat.Float decimal) text same =
    tested (decimal_value decimal) text (whole_number text) (is_decimal text) refl same
number_value-joins IntFloat.Err text same = tt

-- a text that goes on after its digits is no whole number
pub whole_number-none : (text : List ℕ) → (point_place text ≡ length text → ⊥)
    → whole_number text ≡ None
whole_number-none text other = search rules

sign_size-small : (text : List ℕ) → sign_size text ≤ 1
sign_size-small text = search rules

-- each byte of a run is a digit
run-passes : (text : List ℕ) (start place : ℕ) → start ≤ place
    → place < start + run_length text start → is_ascii_digit (get_or text place 0) ≡ true
run-passes text start place after before =
    let below : place - start < run_length text start = omega arith in
    search (
      rules,
      prefix_len_passes is_ascii_digit (drop start text) (place - start) 0 below,
      get_or-drop start text (place - start) 0,
    )

-- a text with another byte after its first is no whole number
whole_number-other : (text : List ℕ) (place : ℕ) → 1 ≤ place → place < length text
    → is_ascii_digit (get_or text place 0) ≡ false
    → whole_number text ≡ None
whole_number-other text place after within other =
    search (rules, sign_size-small, run-passes, whole_number-none, false≢true)

-- nor is it a decimal, if that byte is no point
is_decimal-other : (text : List ℕ) (place : ℕ) → 1 ≤ place → place < length text
    → is_ascii_digit (get_or text place 0) ≡ false
    → (get_or text place 0 == full_stop) ≡ false → is_decimal text ≡ false
is_decimal-other text place after within other no_point = search (rules, run-passes)

-- so it is no number
pub number_answer-other : (text : List ℕ) (place : ℕ) → 1 ≤ place → place < length text
    → is_ascii_digit (get_or text place 0) ≡ false
    → (get_or text place 0 == full_stop) ≡ false → number_answer text ≡ NoNumber
number_answer-other text place after within other no_point =
    rw (
      whole_number-other text place after within other,
      is_decimal-other text place after within other no_point,
    ) refl
