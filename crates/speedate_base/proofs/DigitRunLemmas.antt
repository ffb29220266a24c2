-- How a run of digits grows, and what it spells.
use Rattle.std.proofs.Common.{◌≡◌, ℕ, zero, suc, ◌+◌, ◌-◌, ◌*◌, ◌^◌, ◌<◌, ◌≤◌, ◌==◌, true, false, List, [], ◌∷◌, ◌++◌, length, take, drop, refl, arith, rules, get_or, take-add, mul-le-mul_right}
use Rattle.std.specs.Char.{is_ascii_digit}
use Rattle.std.specs.List.{prefix_len, list_all}
use Rattle.std.proofs.lemmas.List.{take-append-drop, length-drop, get_or-drop, length-append, length-take-le, take_more, get_or_past}
use Rattle.std.proofs.lemmas.List.Sums.{prefix_len-drop_yes, prefix_len-drop_no, prefix_len-drop_all}
use Rattle.std.proofs.lemmas.List.Folds.{list_all-append, prefix_len-append}
use Rattle.std.proofs.lemmas.Bool.{and_from, cases_lt}
use Rattle.std.proofs.lemmas.Bool.Decides.{nat_tests}
use Rattle.std.proofs.lemmas.Nat.{pow-add}
use Rattle.std.proofs.Math.Nat.{pow-succ', pow-le-pow_right}
use Rattle.speedate_base.specs.Digits.{one_digit_value, digits_value, fraction_value}

-- a digit stands within its text
pub digit-within : (bytes : List ℕ) (place : ℕ) → is_ascii_digit (get_or bytes place 0) ≡ true
    → place < length bytes
digit-within bytes place is = grind (arith, nat_tests, cases_lt, get_or_past)

-- a digit stands for nine at most
pub one_digit_value-le : (byte : ℕ) → is_ascii_digit byte ≡ true → one_digit_value byte ≤ 9
one_digit_value-le byte is = grind (arith, nat_tests)

-- digits spell less than the power of ten of their number
pub digits_value-lt : (digits : List ℕ) → list_all is_ascii_digit digits ≡ true
    → digits_value digits < 10 ^ length digits
digits_value-lt [] all = omega arith
digits_value-lt (digit ∷ digits) all =
    search (rules, pow-succ', one_digit_value-le, mul-le-mul_right, digits_value-lt digits)

-- what is below a power of ten is below a larger one
pub below-power : (most count value : ℕ) → count ≤ most → value < 10 ^ count → value < 10 ^ most
below-power most count value few small = search (rules, pow-le-pow_right)

-- few digits fit 64 bits
pub digits_value-fits : (digits : List ℕ) → length digits ≤ 19
    → list_all is_ascii_digit digits ≡ true → digits_value digits < 2 ^ 64
digits_value-fits digits few all = search (rules, below-power, digits_value-lt)

-- digits after others
pub digits_value-append : (digits more : List ℕ)
    → digits_value (digits ++ more) ≡ digits_value digits * 10 ^ length more + digits_value more
digits_value-append [] more = omega arith
digits_value-append (first ∷ digits) more =
    search (rules, length-append, pow-add, digits_value-append digits more)

-- one more digit
pub digits_value-front-more : (bytes : List ℕ) (count : ℕ) → count < length bytes
    → digits_value (take (count + 1) bytes)
    ≡ 10 * digits_value (take count bytes) + one_digit_value (get_or bytes count 0)
digits_value-front-more bytes count within =
    grind (
      arith,
      take_more bytes count 0 within,
      digits_value-append (take count bytes) (get_or bytes count 0 ∷ []),
    )

-- the same from a place on
pub digits_value-next : (bytes : List ℕ) (place end : ℕ) → place ≤ end → end < length bytes
    → digits_value (take (end + 1 - place) (drop place bytes))
    ≡ 10 * digits_value (take (end - place) (drop place bytes))
    + one_digit_value (get_or bytes end 0)
digits_value-next bytes place end from within =
    search (rules, digits_value-front-more, get_or-drop, length-drop)

pub ruleset one_more_digit = (
  nat_tests,
  prefix_len-drop_yes,
  pow-succ',
  one_digit_value-le,
  digit-within,
  digits_value-front-more,
)

-- a run ends with the bytes if and only if all of them are digits
pub run-whole : (bytes : List ℕ)
    → (prefix_len is_ascii_digit bytes == length bytes) ≡ list_all is_ascii_digit bytes
run-whole [] = refl
run-whole (byte ∷ bytes) = grind (arith, nat_tests, run-whole bytes)

-- the front of some bytes has their run where it ends within it
pub run-front : (bytes : List ℕ) (count : ℕ)
    → prefix_len is_ascii_digit (take count bytes) < length (take count bytes)
    → prefix_len is_ascii_digit bytes ≡ prefix_len is_ascii_digit (take count bytes)
run-front bytes count ends =
    grind (
      arith,
      take-append-drop count bytes,
      prefix_len-append is_ascii_digit (take count bytes) (drop count bytes),
    )

-- and their run goes on after it where it is all digits
pub run-on : (bytes : List ℕ) (count : ℕ) → count ≤ length bytes
    → list_all is_ascii_digit (take count bytes) ≡ true
    → prefix_len is_ascii_digit bytes ≡ count + prefix_len is_ascii_digit (drop count bytes)
run-on bytes count within all =
    grind (
      arith,
      take-append-drop count bytes,
      prefix_len-append is_ascii_digit (take count bytes) (drop count bytes),
      run-whole (take count bytes),
      length-take-le count bytes,
    )

-- a run ends at the first byte that is no digit, or with the bytes
pub run_length-ended : (bytes : List ℕ) (count : ℕ) → count ≤ length bytes
    → list_all is_ascii_digit (take count bytes) ≡ true
    → (count < length bytes → is_ascii_digit (get_or bytes count 0) ≡ false)
    → prefix_len is_ascii_digit bytes ≡ count
run_length-ended bytes count within all ended =
    grind (
      arith,
      run-on bytes count,
      prefix_len-drop_no is_ascii_digit bytes count,
      prefix_len-drop_all is_ascii_digit bytes count,
    )

-- digits before a run belong to it
pub run_length-append : (digits rest : List ℕ) → list_all is_ascii_digit digits ≡ true
    → prefix_len is_ascii_digit (digits ++ rest) ≡ length digits + prefix_len is_ascii_digit rest
run_length-append digits rest all = search (rules, prefix_len-append, run-whole)

-- where the digits go on, so does the front
pub list_all-more : (bytes : List ℕ) (place count : ℕ)
    → list_all is_ascii_digit (take place bytes) ≡ true
    → list_all is_ascii_digit (take count (drop place bytes)) ≡ true
    → list_all is_ascii_digit (take (place + count) bytes) ≡ true
list_all-more bytes place count first next = search (rules, take-add, list_all-append, and_from)

-- a fraction is what its digits spell, and zeros in the places that they leave
pub fraction_value-filled : (places : ℕ) (digits : List ℕ) → length digits ≤ places
    → fraction_value places digits ≡ digits_value digits * 10 ^ (places - length digits)
fraction_value-filled zero [] few = omega arith
fraction_value-filled zero (digit ∷ digits) few = absurd (omega arith)
fraction_value-filled (suc places) [] few = omega arith
fraction_value-filled (suc places) (digit ∷ digits) few =
    search (rules, pow-add, fraction_value-filled places digits)

-- digits past the places do not count
pub fraction_value-take : (places : ℕ) (digits : List ℕ)
    → fraction_value places (take places digits) ≡ fraction_value places digits
fraction_value-take zero digits = refl
fraction_value-take (suc places) [] = refl
fraction_value-take (suc places) (digit ∷ digits) =
    search (rules, fraction_value-take places digits)
