-- A fraction's digits taken in blocks, the last ones first.
use Rattle.std.proofs.Common.{rules, ◌≡◌, ℕ, ◌+◌, ◌-◌, ◌*◌, ◌/◌, ◌%◌, ◌^◌, ◌<◌, ◌≤◌, ◌&&◌, ◌==◌, Bool, true, false, min, List, length, take, drop, refl, arith, ap, ◌∙◌, lit<, mul-le-mul_right}
use Rattle.std.specs.Char.{is_ascii_digit}
use Rattle.std.specs.List.{list_all}
use Rattle.std.proofs.lemmas.Bool.{and_parts, cases_lt}
use Rattle.std.proofs.Math.Nat.{div-eq_of_lt}
use Rattle.std.proofs.lemmas.Bool.Decides.{nat_tests}
use Rattle.std.proofs.lemmas.List.{take-append-drop, drop-drop, length-drop}
use Rattle.std.proofs.lemmas.List.Folds.{list_all-append}
use Rattle.std.proofs.lemmas.Nat.{pow-add}
use Rattle.speedate_base.specs.Digits.{digits_value}
use Rattle.speedate_base.proofs.BlockLemmas.{block-more, is_number}
use Rattle.speedate_base.proofs.DigitRunLemmas.{below-power, digits_value-append, digits_value-lt}
use Rattle.speedate_base.specs.Nearest.{quotient, rest_bounds, sixteen_digits_suffice}
use Rattle.speedate_base.proofs.NearestLemmas.{part_below, part_down, part_some, part_up}
use Rattle.speedate_base.proofs.NearestLemmas.{quotient-carried, quotient-filled, quotient-le}
use Rattle.speedate_base.proofs.NearestLemmas.{scale-some}

split : (digits : List ℕ) (count : ℕ) → list_all is_ascii_digit digits ≡ true
    → (list_all is_ascii_digit (take count digits) && list_all is_ascii_digit (drop count digits))
    ≡ true
split digits count all =
    grind (
      arith,
      list_all-append is_ascii_digit (take count digits) (drop count digits),
      take-append-drop count digits,
    )

-- parts of digits are digits
pub front_all : (digits : List ℕ) (count : ℕ) → list_all is_ascii_digit digits ≡ true
    → list_all is_ascii_digit (take count digits) ≡ true
front_all digits count all = (and_parts _ _ (split digits count all)).0

pub rest_all : (digits : List ℕ) (count : ℕ) → list_all is_ascii_digit digits ≡ true
    → list_all is_ascii_digit (drop count digits) ≡ true
rest_all digits count all = (and_parts _ _ (split digits count all)).1

-- what few digits spell with zeros after them
pub filled-small : (digits : List ℕ) (count : ℕ) → length digits ≤ count
    → list_all is_ascii_digit digits ≡ true
    → digits_value digits * 10 ^ (count - length digits) < 10 ^ count
filled-small digits count few all =
    search (rules, pow-add, digits_value-lt, mul-le-mul_right, scale-some)

pub filled-fits : (digits : List ℕ) (count : ℕ) → length digits ≤ count → count ≤ 8
    → list_all is_ascii_digit digits ≡ true
    → digits_value digits * 10 ^ (count - length digits) < 10 ^ 8
filled-fits digits count few small all =
    below-power 8 count _ small (filled-small digits count few all)

pub ruleset filled_rules = (is_number, filled-small, filled-fits)

-- digits with zeros after them, up to eight, are the same fraction
pub filled-taken : (up : Bool) (unit : ℕ) (digits : List ℕ) (value : ℕ) → length digits ≤ 8
    → value ≡ digits_value digits * 10 ^ (8 - length digits)
    → quotient up (2 * (value * unit) + 0) 100000000
    ≡ quotient up (2 * (digits_value digits * unit)) (10 ^ length digits)
filled-taken up unit digits value few is =
    let size = 2 * (digits_value digits * unit) in
    let scale = 10 ^ length digits in
    let zeros = 10 ^ (8 - length digits) in
    let count : 8 - length digits + length digits ≡ 8 = omega arith in
    let power : zeros * scale ≡ 100000000 =
    cc (count, pow-add 10 (8 - length digits) (length digits)) in
    let sum : size * zeros ≡ 2 * (value * unit) + 0 = rw is (grind arith) in
    let has_zeros = scale-some (8 - length digits) in
    cc (power, sum, quotient-filled up size scale zeros (scale-some (length digits)) has_zeros)

-- eight digits are taken as twice four
pub halves-taken : (up : Bool) (value rest unit : ℕ)
    → quotient up (2 * (value / 10000 * unit)
    + quotient up (2 * (value % 10000 * unit) + rest) 10000) 10000
    ≡ quotient up (2 * (value * unit) + rest) 100000000
halves-taken up value rest unit =
    let front = 2 * (value / 10000 * unit) in
    let back = 2 * (value % 10000 * unit) + rest in
    let whole : value ≡ value / 10000 * 10000 + value % 10000 = omega arith in
    let sizes = ap (λ (n : ℕ). n * unit) whole in
    let sum : back + front * 10000 ≡ 2 * (value * unit) + rest = grind (arith, sizes) in
    cc (sum, quotient-carried up front back 10000 10000 (lit< tt) (lit< tt))

-- a block before digits
pub block-taken : (up : Bool) (unit : ℕ) (digits : List ℕ) (place value later twice : ℕ)
    → 8 ≤ place → place ≤ length digits
    → value ≡ digits_value (take 8 (drop (place - 8) digits))
    → later ≡ quotient up (2 * (digits_value (drop place digits) * unit))
    (10 ^ length (drop place digits))
    → twice ≡ quotient up (2 * (value * unit) + later) 100000000
    → twice ≡ quotient up (2 * (digits_value (drop (place - 8) digits) * unit))
    (10 ^ length (drop (place - 8) digits))
block-taken up unit digits place value later twice some within is taken_later taken =
    let all : List ℕ = drop (place - 8) digits in
    let rest : List ℕ = drop place digits in
    let scale = 10 ^ length rest in
    let there : place - 8 + 8 ≡ place = omega arith in
    let both_dropped = drop-drop 8 (place - 8) digits in
    let behind : drop 8 all ≡ rest = both_dropped ∙ ap (λ (n : ℕ). drop n digits) there in
    let whole : digits_value all ≡ value * scale + digits_value rest =
    grind (arith, digits_value-append (take 8 all) rest) in
    let long : length all ≡ length rest + 8 = omega (
      arith,
      length-drop place digits,
      length-drop (place - 8) digits,
    ) in
    let power : 10 ^ length all ≡ scale * 100000000 = grind (arith, pow-add 10 (length rest) 8) in
    let block = 2 * (value * unit) in
    let after = 2 * (digits_value rest * unit) in
    let sum : after + block * scale ≡ 2 * (digits_value all * unit) = rw whole (grind arith) in
    let has_scale = scale-some (length rest) in
    let carried = quotient-carried up block after scale 100000000 has_scale (lit< tt) in
    rw (power, ← sum, taken, taken_later) carried

-- the microseconds of digits are at most those of a unit
pub rest-within : (up : Bool) (unit : ℕ) (digits : List ℕ) → list_all is_ascii_digit digits ≡ true
    → quotient up (2 * (digits_value digits * unit)) (10 ^ length digits) ≤ 2 * unit
rest-within false unit digits all =
    let size = 2 * (digits_value digits * unit) in
    let none : size + 0 ≡ size = omega arith in
    let small = digits_value-lt digits all in
    rw none at (part_down (digits_value digits) unit 0 (10 ^ length digits) small (omega arith))
rest-within true unit digits all =
    let size = 2 * (digits_value digits * unit) in
    let none : size + 0 ≡ size = omega arith in
    let small = digits_value-lt digits all in
    rw none at (part_up (digits_value digits) unit 0 (10 ^ length digits) small (omega arith))

pub rest-below : (unit : ℕ) (digits : List ℕ) → list_all is_ascii_digit digits ≡ true
    → quotient false (2 * (digits_value digits * unit)) (10 ^ length digits) ≤ 2 * unit - 1
rest-below unit digits all =
    grind (arith, nat_tests, cases_lt, part_below, digits_value-lt, scale-some, div-eq_of_lt)

pub rest-some : (unit : ℕ) (digits : List ℕ) → (digits_value digits ≡ 0 → ⊥)
    → min unit 1 ≤ quotient true (2 * (digits_value digits * unit)) (10 ^ length digits)
rest-some unit digits other = search (rules, cases_lt, part_some, scale-some)

-- so they lie between their bounds
rest-up : (unit : ℕ) (digits : List ℕ) → list_all is_ascii_digit digits ≡ true
    → ((rest_bounds true unit digits).0
    ≤ quotient true (2 * (digits_value digits * unit)) (10 ^ length digits))
    × (quotient true (2 * (digits_value digits * unit)) (10 ^ length digits)
    ≤ (rest_bounds true unit digits).1)
rest-up unit digits all = grind (arith, rest-within true unit digits all, rest-some unit digits)

pub rest-bounded : (up : Bool) (unit : ℕ) (digits : List ℕ) → list_all is_ascii_digit digits ≡ true
    → ((rest_bounds up unit digits).0
    ≤ quotient up (2 * (digits_value digits * unit)) (10 ^ length digits))
    × (quotient up (2 * (digits_value digits * unit)) (10 ^ length digits)
    ≤ (rest_bounds up unit digits).1)
rest-bounded up unit digits all = search (rules, rest-below, rest-up)

-- what sixteen digits spell
pub sixteen-value : (digits : List ℕ) → 16 ≤ length digits
    → digits_value (take 16 digits)
    ≡ digits_value (take 8 digits) * 100000000 + digits_value (take 8 (drop 8 digits))
sixteen-value digits long = omega (arith, block-more digits 8 long)

-- a fraction whose first sixteen digits are rounded in one way, for both bounds of the digits after
-- them, is rounded so
pub sixteen-told : (up : Bool) (unit : ℕ) (digits : List ℕ) (value smallest largest least most : ℕ)
    → 16 ≤ length digits
    → value ≡ digits_value (take 16 digits)
    → smallest
    ≤ quotient up (2 * (digits_value (drop 16 digits) * unit)) (10 ^ length (drop 16 digits))
    → quotient up (2 * (digits_value (drop 16 digits) * unit)) (10 ^ length (drop 16 digits))
    ≤ largest
    → least ≡ quotient up (2 * (value * unit) + smallest) (10 ^ 16)
    → most ≡ quotient up (2 * (value * unit) + largest) (10 ^ 16)
    → least ≡ most
    → least ≡ quotient up (2 * (digits_value digits * unit)) (10 ^ length digits)
sixteen-told up unit digits value smallest largest least most long is more less one two same =
    let rest : List ℕ = drop 16 digits in
    let scale = 10 ^ length rest in
    let size = 2 * (value * unit) in
    let later = quotient up (2 * (digits_value rest * unit)) scale in
    let whole : digits_value digits ≡ value * scale + digits_value rest =
    grind (arith, digits_value-append (take 16 digits) rest) in
    let count : length digits ≡ length rest + 16 = omega (arith, length-drop 16 digits) in
    let product = pow-add 10 (length rest) 16 in
    let power : 10 ^ length digits ≡ scale * 10 ^ 16 = rw (count, product) refl in
    let after = 2 * (digits_value rest * unit) in
    let all = 2 * (digits_value digits * unit) in
    let sum : after + size * scale ≡ all = rw whole (grind arith) in
    let some = scale-some 16 in
    let carried = quotient-carried up size after scale (10 ^ 16) (scale-some (length rest)) some in
    let first = quotient up (size + later) (10 ^ 16) in
    let exact : first ≡ quotient up all (10 ^ length digits) = rw (power, ← sum) carried in
    let above : size + smallest ≤ size + later = omega (arith, more) in
    let below : size + later ≤ size + largest = omega (arith, less) in
    let low = quotient-le up (size + smallest) (size + later) (10 ^ 16) some above in
    let high = quotient-le up (size + later) (size + largest) (10 ^ 16) some below in
    omega (arith, low, high, one, two, same, exact)

-- so both bounds show whether sixteen digits tell it, and what
pub sixteen-tells : (up : Bool) (unit : ℕ) (digits : List ℕ) (value smallest largest least most : ℕ)
    → 16 ≤ length digits
    → list_all is_ascii_digit digits ≡ true
    → value ≡ digits_value (take 16 digits)
    → (smallest, largest) ≡ rest_bounds up unit (drop 16 digits)
    → least ≡ quotient up (2 * (value * unit) + smallest) (10 ^ 16)
    → most ≡ quotient up (2 * (value * unit) + largest) (10 ^ 16)
    → (sixteen_digits_suffice up unit digits ≡ (least == most))
    × (least ≡ most → least ≡ quotient up (2 * (digits_value digits * unit)) (10 ^ length digits))
sixteen-tells up unit digits value smallest largest least most long all is bounds one two =
    let lies = rest-bounded up unit (drop 16 digits) (rest_all digits 16 all) in
    let between = rw (← bounds) at lies in (
      rw (← is, ← bounds, one, two) refl,
      sixteen-told up unit digits value smallest largest least most long is between.0 between.1
          one two,
    )
