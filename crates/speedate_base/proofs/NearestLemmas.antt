-- The whole number that is nearest to a fraction is found by rounding down what is twice the
-- fraction.
use Rattle.std.proofs.Common.{zero, suc, ◌≡◌, ℕ, ◌+◌, ◌-◌, ◌*◌, ◌/◌, ◌^◌, ◌<◌, ◌≤◌, Bool, true, false, if◌then◌else◌, ℤ, pos, negsuc, neg_ℤ, ◌∙◌, ap, sym, arith, rules, lit<, mul-le-mul_left, mul-le-mul_right}
use Rattle.std.proofs.lemmas.Nat.{pow-add}
use Rattle.std.proofs.lemmas.Bool.{cases_lt}
use Rattle.std.proofs.lemmas.Bool.Decides.{nat_tests}
use Rattle.std.proofs.lemmas.Int.{ints}
use Rattle.std.proofs.Math.Nat.{add-mul-div_right, div-div-eq-div-mul, div-eq_of_lt, mul-div-le, lt-div-mul-add, one-le-pow}
use Rattle.speedate_base.specs.Numbers.{with_sign}
use Rattle.speedate_base.specs.Nearest.{IsNearest, nearest, quotient}

-- a scale is not 0
pub scale-some : (n : ℕ) → 0 < 10 ^ n
scale-some n = one-le-pow n 10 (lit< tt)

-- the number that is found is nearest
pub nearest-is : (n : ℤ) (d : ℕ) → 0 < d → IsNearest n d (nearest n d)
nearest-is n d some = search rules

-- and no other number is
one-between : (b a m : ℕ) → b * m < b * a + b → m ≤ a
one-between b a m below = search (rules, cases_lt, mul-le-mul_left)

same-nearest : (n : ℤ) (d : ℕ) (m k : ℤ) → 0 < d → IsNearest n d m → IsNearest n d k → m ≡ k
same-nearest n d (pos m) (pos k) some first second = search (rules, one-between)
same-nearest n d (pos m) (negsuc k) some first second = absurd (grind (arith, ints, nat_tests))
same-nearest n d (negsuc m) (pos k) some first second = absurd (grind (arith, ints, nat_tests))
same-nearest n d (negsuc m) (negsuc k) some first second = search (rules, one-between)

pub nearest-only : (n : ℤ) (d : ℕ) (m : ℤ) → 0 < d → IsNearest n d m → m ≡ nearest n d
nearest-only n d m some is = same-nearest n d m (nearest n d) some is (nearest-is n d some)

-- what is left of rounding where twice the size was rounded first: down, or up for a negative
-- number
abbrev pub halved : Bool → ℕ → ℕ
halved negative twice = if negative then twice / 2 else (twice + 1) / 2

-- a number below zero is rounded up by its size
down : (n d : ℕ) → 0 < d → nearest (neg_ℤ (pos n)) d ≡ neg_ℤ (pos ((2 * n + (d - 1)) / (2 * d)))
down n d some = grind (arith, add-mul-div_right (2 * n - d - 1) 1, div-eq_of_lt)

-- the nearest number, by its size
pub nearest-halved : (negative : Bool) (n d : ℕ) → 0 < d
    → nearest (with_sign negative n) d
    ≡ with_sign negative (halved negative (quotient negative (2 * n) d))
nearest-halved false n d some =
    grind (arith, ints, add-mul-div_right (2 * n) 1 some, div-div-eq-div-mul (2 * n + d) d 2)
nearest-halved true n d some =
    grind (arith, down n d some, div-div-eq-div-mul (2 * n + (d - 1)) d 2)

pub ruleset nearest_rules = (nearest-halved, nearest-only, scale-some)

-- a quotient of a part that was rounded in the same way first
pub quotient-carried : (up : Bool) (a b c d : ℕ) → 0 < c → 0 < d
    → quotient up (a + quotient up b c) d ≡ quotient up (b + a * c) (c * d)
quotient-carried up a b c zero some_c some_d = absurd (omega arith)
quotient-carried false a b c (suc d) some_c some_d =
    grind (arith, add-mul-div_right b a some_c, div-div-eq-div-mul (b + a * c) c (suc d))
quotient-carried true a b c (suc d) some_c some_d =
    grind (
      arith,
      add-mul-div_right (b + (c - 1)) (a + d) some_c,
      div-div-eq-div-mul (b + (c - 1) + (a + d) * c) c (suc d),
    )

-- a part of a unit, and the rest of one, divided by the scale of the part
pub part_down : (value unit rest scale : ℕ) → value < scale → rest ≤ 2 * unit
    → (2 * (value * unit) + rest) / scale ≤ 2 * unit
part_down value unit rest scale some few =
    let sum = 2 * (value * unit) + rest in
    let less : value + 1 ≤ scale = omega arith in
    let below : sum < scale * (2 * unit) + scale = grind (arith, mul-le-mul_right unit less) in
    one-between scale (2 * unit) (sum / scale) (omega (arith, below, mul-div-le sum scale))

pub part_up : (value unit rest scale : ℕ) → value < scale → rest ≤ 2 * unit
    → (2 * (value * unit) + rest + (scale - 1)) / scale ≤ 2 * unit
part_up value unit rest scale some few =
    grind (arith, nat_tests, mul-le-mul_right, one-between, mul-div-le)

pub ruleset part_rules = (part_down, part_up)

-- a part of a unit, rounded down, is less than a whole one
pub part_below : (value unit scale : ℕ) → value < scale → 0 < unit
    → 2 * (value * unit) / scale ≤ 2 * unit - 1
part_below value unit scale some has =
    let sum = 2 * (value * unit) in
    let last = 2 * unit - 1 in
    let less : value + 1 ≤ scale = omega arith in
    let whole : last + 1 ≡ 2 * unit = omega arith in
    let below : sum < scale * (last + 1) = rw whole (grind (arith, mul-le-mul_right unit less)) in
    one-between scale last (sum / scale) (grind (arith, below, mul-div-le sum scale))

-- and rounded up it is more than nothing
pub part_some : (value unit scale : ℕ) → 0 < value → 0 < scale → 0 < unit
    → 1 ≤ (2 * (value * unit) + (scale - 1)) / scale
part_some value unit scale some_value some_scale has =
    search (rules, mul-le-mul_right, lt-div-mul-add, one-between)

-- whole numbers beside a fraction are not rounded
pub quotient-whole : (up : Bool) (a n d : ℕ) → 0 < d
    → quotient up (n + a * d) d ≡ quotient up n d + a
quotient-whole up a n d some =
    grind (arith, add-mul-div_right n a some, add-mul-div_right (n + (d - 1)) a some)

pub halved-whole : (negative : Bool) (twice a : ℕ)
    → halved negative (twice + 2 * a) ≡ halved negative twice + a
halved-whole negative twice a = search rules

-- a fraction whose digits are whole numbers of what it is counted in is not rounded
pub nearest-exact : (negative : Bool) (n d : ℕ) → 0 < d
    → nearest (with_sign negative (n * d)) d ≡ with_sign negative n
nearest-exact negative n d some = grind (arith, ints, nat_tests)

-- so a fraction of no more digits than are whole numbers is filled up with zeros
pub nearest_filled : (negative : Bool) (worth places count value filled : ℕ) → count ≤ places
    → worth ≡ 10 ^ places
    → filled ≡ value * 10 ^ (places - count)
    → with_sign negative filled ≡ nearest (with_sign negative (value * worth)) (10 ^ count)
nearest_filled negative worth places count value filled few is_worth is =
    let sum : (places - count) + count ≡ places = omega arith in
    let scales = sym (pow-add 10 (places - count) count) in
    let zeros = 10 ^ (places - count) in
    let power : zeros * 10 ^ count ≡ 10 ^ places = scales ∙ ap (λ (n : ℕ). 10 ^ n) sum in
    let product : value * worth ≡ filled * 10 ^ count = rw (is_worth, is) (grind (arith, power)) in
    rw product (sym (nearest-exact negative filled (10 ^ count) (scale-some count)))

-- a larger number has no smaller quotient
pub quotient-le : (up : Bool) (n m d : ℕ) → 0 < d → n ≤ m → quotient up n d ≤ quotient up m d
quotient-le up n m d some less = search (rules, mul-div-le, lt-div-mul-add, one-between)

-- nothing is rounded to nothing
pub quotient-none : (up : Bool) (d : ℕ) → 0 < d → quotient up 0 d ≡ 0
quotient-none up d some = search (rules, div-eq_of_lt)

-- a fraction in more places has the same quotient
pub quotient-filled : (up : Bool) (n d k : ℕ) → 0 < d → 0 < k
    → quotient up (n * k) (k * d) ≡ quotient up n d
quotient-filled up n d k some_d some_k =
    let none : 0 + n * k ≡ n * k = omega arith in
    let same : n + quotient up 0 k ≡ n = omega (arith, quotient-none up k some_k) in
    ap (λ (size : ℕ). quotient up size (k * d)) (sym none)
    ∙ sym (quotient-carried up n 0 k d some_k some_d) ∙ ap (λ (size : ℕ). quotient up size d) same
