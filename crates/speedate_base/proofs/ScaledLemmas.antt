-- A decimal times a power of ten, by its whole part and the digits of its fraction that count.
use Rattle.std.proofs.Common.{rules, ◌≡◌, ℕ, ◌+◌, ◌-◌, ◌*◌, ◌/◌, ◌%◌, ◌^◌, ◌<◌, Bool, true, List, ◌++◌, length, take, drop, min, arith, ap, sym, ◌∙◌, mul-le-mul_right}
use Rattle.std.specs.Char.{is_ascii_digit}
use Rattle.std.specs.List.{list_all}
use Rattle.std.proofs.lemmas.Bool.{cases_lt}
use Rattle.std.proofs.lemmas.Bool.Decides.{nat_tests}
use Rattle.std.proofs.lemmas.List.{take-append-drop, length-drop}
use Rattle.std.proofs.lemmas.Nat.{pow-add}
use Rattle.std.proofs.Math.Nat.{add-mul-div_right, div-eq_of_lt}
use Rattle.speedate_base.specs.Digits.{digits_value}
use Rattle.speedate_base.specs.Numbers.{signed_answer}
use Rattle.speedate_base.proofs.DigitRunLemmas.{digits_value-append, digits_value-lt}
use Rattle.speedate_base.proofs.NearestLemmas.{scale-some}
use Rattle.speedate_base.proofs.RoundingLemmas.{rest_all}

-- the first digits of a fraction count, as many as there are places
abbrev counted : ℕ → List ℕ → ℕ
counted places fraction = min (length fraction) places

-- what a decimal is as units of the last place, by its whole part and those digits
abbrev units : ℕ → List ℕ → List ℕ → ℕ
units places whole fraction =
    digits_value whole * 10 ^ places + digits_value (take (counted places fraction) fraction)
    * 10 ^ (places - counted places fraction)

-- and what the other digits are
abbrev left : ℕ → List ℕ → ℕ
left places fraction = digits_value (drop (counted places fraction) fraction) * 10 ^ places

-- the digits that are left and the places are as many as the places that are missing and all digits
powers : (places : ℕ) (fraction : List ℕ)
    → 10 ^ length (drop (counted places fraction) fraction) * 10 ^ places
    ≡ 10 ^ (places - counted places fraction) * 10 ^ length fraction
powers places fraction =
    let count = counted places fraction in
    let sums : length (drop count fraction) + places ≡ places - count + length fraction =
    omega (arith, length-drop count fraction) in
    sym (pow-add 10 (length (drop count fraction)) places) ∙ ap (λ (n : ℕ). 10 ^ n) sums
    ∙ pow-add 10 (places - count) (length fraction)

-- together they are the decimal
parts-sum : (places : ℕ) (whole fraction : List ℕ)
    → digits_value (whole ++ fraction) * 10 ^ places
    ≡ units places whole fraction * 10 ^ length fraction + left places fraction
parts-sum places whole fraction =
    let count = counted places fraction in
    let first = digits_value (take count fraction) in
    let cut = sym (ap digits_value (take-append-drop count fraction))
    ∙ digits_value-append (take count fraction) (drop count fraction) in
    rw (digits_value-append whole fraction, cut)
    (grind (arith, ap (λ (n : ℕ). first * n) (powers places fraction)))

-- what is left is less than one
left-small : (places : ℕ) (fraction : List ℕ) → list_all is_ascii_digit fraction ≡ true
    → left places fraction < 10 ^ length fraction
left-small places fraction all =
    let count = counted places fraction in
    let rest = drop count fraction in
    search (
      rules,
      cases_lt (length fraction) places,
      digits_value-lt rest (rest_all fraction count all),
      length-drop count fraction,
      powers places fraction,
      scale-some,
    )

-- a quotient and a rest are those of the division
divided : (n q d r : ℕ) → n ≡ q * d + r → r < d → (n / d ≡ q) × (n % d ≡ r)
divided n q d r is small = grind (arith, add-mul-div_right r q, div-eq_of_lt)

-- so the decimal divided by its scale is these
pub scaled_units : (places : ℕ) (whole fraction : List ℕ) → list_all is_ascii_digit fraction ≡ true
    → (digits_value (whole ++ fraction) * 10 ^ places) / 10 ^ length fraction
    ≡ units places whole fraction
scaled_units places whole fraction all =
    (divided _ _ _ _ (parts-sum places whole fraction) (left-small places fraction all)).0

pub scaled_left : (places : ℕ) (whole fraction : List ℕ) → list_all is_ascii_digit fraction ≡ true
    → (digits_value (whole ++ fraction) * 10 ^ places) % 10 ^ length fraction ≡ left places fraction
scaled_left places whole fraction all =
    (divided _ _ _ _ (parts-sum places whole fraction) (left-small places fraction all)).1

-- a size that is capped at each step fits if and only if the exact one does
pub capped_fits : (negative : Bool) (a b p q one two : ℕ) → 0 < p → 0 < q
    → one ≡ min (min a (2 ^ 64 - 1) * p) (2 ^ 64 - 1)
    → two ≡ min (min b (2 ^ 64 - 1) * q) (2 ^ 64 - 1)
    → signed_answer negative (min (one + two) (2 ^ 64 - 1)) ≡ signed_answer negative (a * p + b * q)
capped_fits negative a b p q one two some_p some_q is_one is_two =
    grind (arith, nat_tests, mul-le-mul_right)

pub ruleset scaled_rules = (nat_tests, scale-some, scaled_units, scaled_left, capped_fits)
