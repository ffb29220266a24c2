-- A decimal timestamp by its whole part and its fraction.
use Rattle.std.proofs.Common.{◌≡◌, ◌≢◌, ℕ, ◌+◌, ◌*◌, ◌^◌, ◌<◌, ◌≤◌, ◌==◌, Bool, true, false, nat_le, if◌then◌else◌, List, [], ◌∷◌, ◌++◌, length, get_or, min, ◌-◌, ℤ, Err, arith, rules, ap, sym, ◌∙◌, lit<, le-mul_of_pos_right, mul-le-mul_right}
use Rattle.std.specs.Char.{is_ascii_digit}
use Rattle.std.specs.List.{list_all}
use Rattle.std.proofs.lemmas.Bool.{and_parts}
use Rattle.std.proofs.lemmas.Bool.Decides.{nat_tests}
use Rattle.std.proofs.lemmas.Int.{ints}
use Rattle.std.proofs.Math.Nat.{pow-le-pow_right}
use Rattle.speedate_base.specs.Requirement.{ParseError}
use Rattle.speedate_base.specs.Timestamp.{decimal_microsecond, decimal_instant, UnitRow}
use Rattle.speedate_base.specs.Timestamp.{inferred_seconds_max, instant_at, range_answer}
use Rattle.speedate_base.specs.Digits.{one_digit_value, digits_value}
use Rattle.speedate_base.proofs.DigitRunLemmas.{below-power, digits_value-append, digits_value-lt}
use Rattle.speedate_base.specs.Nearest.{nearest, quotient}
use Rattle.speedate_base.proofs.NearestLemmas.{halved, nearest-halved, quotient-whole, halved-whole}
use Rattle.speedate_base.proofs.NearestLemmas.{scale-some}
use Rattle.speedate_base.specs.Numbers.{DecimalParts, decimal_digits, decimal_scale, with_sign}

-- many digits of which the first is not 0 spell a large number
pub digits_value-large : (digits : List ℕ) → list_all is_ascii_digit digits ≡ true
    → 12 ≤ length digits → get_or digits 0 0 ≢ 48
    → 20000000000 < digits_value digits
digits_value-large [] all many other = absurd (omega arith)
digits_value-large (digit ∷ digits) all many other =
    let parts = and_parts (is_ascii_digit digit) _ all in
    let more : 1 ≤ one_digit_value digit = grind (arith, nat_tests, other) in
    let rest : 11 ≤ length digits = omega arith in
    let power : 10 ^ 11 ≤ 10 ^ length digits = pow-le-pow_right {n = 10} (lit< tt) rest in
    omega (arith, mul-le-mul_right (10 ^ length digits) more, power)

-- few digits spell a small one
pub digits_value-small : (digits : List ℕ) → list_all is_ascii_digit digits ≡ true
    → length digits ≤ 10 → digits_value digits < inferred_seconds_max
digits_value-small digits all few =
    omega (arith, below-power 10 (length digits) _ few (digits_value-lt digits all))

-- how a decimal compares with the largest timestamp in seconds
pub same-whole : (whole fraction : List ℕ) → digits_value whole ≡ inferred_seconds_max
    → nat_le (digits_value (whole ++ fraction)) (inferred_seconds_max * 10 ^ length fraction)
    ≡ (digits_value fraction == 0)
same-whole whole fraction same = grind (arith, nat_tests, digits_value-append)

pub less-whole : (whole fraction : List ℕ) → list_all is_ascii_digit fraction ≡ true
    → digits_value whole < inferred_seconds_max
    → nat_le (digits_value (whole ++ fraction)) (inferred_seconds_max * 10 ^ length fraction) ≡ true
less-whole whole fraction all less =
    search (rules, digits_value-append, digits_value-lt, mul-le-mul_right)

pub more-whole : (whole fraction : List ℕ) → inferred_seconds_max < digits_value whole
    → nat_le (digits_value (whole ++ fraction)) (inferred_seconds_max * 10 ^ length fraction)
    ≡ false
more-whole whole fraction more = search (rules, digits_value-append, scale-some, mul-le-mul_right)

pub ruleset inferred_rules =
    (nat_tests, digits_value-large, digits_value-small, same-whole, less-whole, more-whole)

-- a size with its sign is one size
with_sign-only : (negative : Bool) (first second : ℕ)
    → with_sign negative first ≡ with_sign negative second → first ≡ second
with_sign-only negative first second same = grind (arith, ints)

-- the microseconds of the whole part, and those of the fraction to the nearest, are those of the
-- decimal to the nearest
pub decimal_microsecond-sum : (row : UnitRow) (decimal : DecimalParts) (part : ℕ)
    → with_sign decimal.negative part
    ≡ nearest (with_sign decimal.negative (digits_value decimal.fraction * row.microseconds))
    (decimal_scale decimal)
    → decimal_microsecond row decimal
    ≡ with_sign decimal.negative (digits_value decimal.whole * row.microseconds + part)
decimal_microsecond-sum row decimal part is =
    let negative = decimal.negative in
    let worth = row.microseconds in
    let scale = decimal_scale decimal in
    let some = scale-some (length decimal.fraction) in
    let whole = digits_value decimal.whole in
    let rest = digits_value decimal.fraction in
    let twice = 2 * (rest * worth) in
    let rounded = quotient negative twice scale in
    let nearest_part = is ∙ nearest-halved negative (rest * worth) scale some in
    let half = with_sign-only negative part (halved negative rounded) nearest_part in
    let joined = digits_value-append decimal.whole decimal.fraction in
    let all = decimal_digits decimal in
    let more = 2 * (whole * worth) in
    let spread = ap (λ (n : ℕ). 2 * (n * worth)) joined in
    let sum : 2 * (all * worth) ≡ twice + more * scale = spread ∙ grind arith in
    let quotients = ap (λ (n : ℕ). quotient negative n scale) sum
    ∙ quotient-whole negative more twice scale some in
    let sizes = halved-whole negative rounded (whole * worth) ∙ omega (arith, half) in
    nearest-halved negative (all * worth) scale some
    ∙ ap (λ (n : ℕ). with_sign negative (halved negative n)) quotients
    ∙ ap (with_sign negative) sizes

-- an instant far from 1970 lies outside the years
far-range : (negative : Bool) (size : ℕ) → 2 ^ 60 < size
    → range_answer (instant_at (with_sign negative size))
    ≡ Err (if negative then ParseError.DateTooSmall else ParseError.DateTooLarge)
far-range negative size far = search rules

-- so does that of a decimal whose whole part is far, also in numbers of 64 bits
pub decimal-far : (row : UnitRow) (decimal : DecimalParts) (value size : ℕ)
    → value ≡ min (digits_value decimal.whole) (2 ^ 64 - 1)
    → size ≡ min (value * row.microseconds) (2 ^ 64 - 1) → 2 ^ 60 < size
    → range_answer (decimal_instant row decimal)
    ≡ Err (if decimal.negative then ParseError.DateTooSmall else ParseError.DateTooLarge)
decimal-far row decimal value size is product far =
    let negative = decimal.negative in
    let worth = row.microseconds in
    let scale = decimal_scale decimal in
    let rest = digits_value decimal.fraction * worth in
    let part = halved negative (quotient negative (2 * rest) scale) in
    let some = scale-some (length decimal.fraction) in
    let nearest_part = sym (nearest-halved negative rest scale some) in
    let sum = decimal_microsecond-sum row decimal part nearest_part in
    let below : value ≤ digits_value decimal.whole = omega (arith, is) in
    let larger = mul-le-mul_right worth below in
    let total = digits_value decimal.whole * worth + part in
    let far_total : 2 ^ 60 < total = omega (arith, far, product, larger) in
    ap (λ (n : ℤ). range_answer (instant_at n)) sum ∙ far-range negative total far_total

-- and one that is near is exact in them
pub near : (digits : List ℕ) (worth value size : ℕ) → 0 < worth
    → value ≡ min (digits_value digits) (2 ^ 64 - 1)
    → size ≡ min (value * worth) (2 ^ 64 - 1) → size ≤ 2 ^ 60 → size ≡ digits_value digits * worth
near digits worth value size some is product less = search (rules, le-mul_of_pos_right)
