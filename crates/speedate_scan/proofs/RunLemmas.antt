-- Up to where a duration after a word may extend.
use Rattle.std.proofs.Common.{◌≡◌, ◌∙◌, ℕ, ◌+◌, ◌-◌, ◌<◌, ◌≤◌, List, [], ◌∷◌, length, take, drop, true, false, refl, ap, arith}
use Rattle.std.proofs.lemmas.List.{drop_all, take_rest}
use Rattle.speedate_scan.specs.Amount.{ends_duration, length_to_end}
use Rattle.speedate_scan.proofs.WordLemmas.{parts_at}

-- a duration can end at no byte of a text before a place
pub record IsRunUpTo (text : List ℕ) (place : ℕ) : Type 0 where
  pub within : place ≤ length text
  pub size : length_to_end text ≡ place + length_to_end (drop place text)

nothing_passed : (size : ℕ) → size ≡ 0 + size
nothing_passed size = omega arith

pub run_begins : (text : List ℕ) → IsRunUpTo text 0
run_begins text = record { within = omega arith; size = nothing_passed (length_to_end text) }

-- a duration that can end at its first byte has no bytes
ends_here : (text bytes : List ℕ) (byte : ℕ) → text ≡ (byte ∷ bytes)
    → ends_duration text ≡ true → length_to_end text ≡ 0
unfolding length_to_end
ends_here [] bytes byte parts here = cc
ends_here (first ∷ rest) bytes byte parts here = rw here refl

-- another one has its first byte
ends_later : (text bytes : List ℕ) (byte : ℕ) → text ≡ (byte ∷ bytes)
    → ends_duration text ≡ false → length_to_end text ≡ 1 + length_to_end bytes
unfolding length_to_end
ends_later [] bytes byte parts later = cc
ends_later (first ∷ rest) bytes byte parts later =
    let same : rest ≡ bytes = cc in
    rw later (ap (λ (l : List ℕ). 1 + length_to_end l) same)

pub run_ends : (text : List ℕ) (place : ℕ) → IsRunUpTo text place → place < length text
    → ends_duration (take (length text - place) (drop place text)) ≡ true
    → place ≡ length_to_end text
run_ends text place run within front_is =
    let here : ends_duration (drop place text) ≡ true = rw take_rest at front_is in
    let size = ends_here (drop place text) _ _ (parts_at text place within) here in
    omega (arith, size, run.size)

pub run_goes_on : (text : List ℕ) (place : ℕ) → IsRunUpTo text place → place < length text
    → ends_duration (take (length text - place) (drop place text)) ≡ false
    → IsRunUpTo text (place + 1)
run_goes_on text place run within front_is_not =
    let later : ends_duration (drop place text) ≡ false = rw take_rest at front_is_not in
    let next = ends_later (drop place text) _ _ (parts_at text place within) later in
    record { within = omega arith; size = omega (arith, next, run.size) }

nothing_at_end : length_to_end [] ≡ 0
unfolding length_to_end
nothing_at_end = refl

pub run_to_end : (text : List ℕ) (place : ℕ) → IsRunUpTo text place → length text ≤ place
    → place ≡ length_to_end text
run_to_end text place run ended =
    let rest : length_to_end (drop place text) ≡ 0 =
    ap length_to_end (drop_all place text ended) ∙ nothing_at_end in
    omega (arith, rest, run.size)
