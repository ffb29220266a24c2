-- What is printed in two, four or six digits is digits, and spells the number that was printed.
use Rattle.std.proofs.Common.{◌≡◌, ℕ, ◌<◌, true, arith, rules}
use Rattle.std.specs.Char.{is_ascii_digit}
use Rattle.std.specs.List.{list_all}
use Rattle.speedate_base.specs.Digits.{two_digits_at, two_digit_text, two_digit_value}
use Rattle.speedate_base.specs.Digits.{four_digit_text, four_digits_at, six_digit_text}
use Rattle.speedate_base.specs.Digits.{fraction_value}

-- the digits of a number below 100
pub two_digits-printed : (n : ℕ) → n < 100 → two_digits_at (two_digit_text n) 0 ≡ true
two_digits-printed n small = search rules

-- the digits of a number below 10,000
pub four_digits-printed : (n : ℕ) → n < 10000 → four_digits_at (four_digit_text n) 0 ≡ true
four_digits-printed n small = search rules

-- spell it
pub two_digit_value-printed : (n : ℕ) → two_digit_value (two_digit_text n) 0 ≡ n
two_digit_value-printed n = omega arith

-- the digits of a number below 1,000,000
pub six_digits-printed : (n : ℕ) → n < 1000000 → list_all is_ascii_digit (six_digit_text n) ≡ true
six_digits-printed n small = search rules

-- as a fraction of six places they mean the number
pub fraction_value-printed : (n : ℕ) → fraction_value 6 (six_digit_text n) ≡ n
fraction_value-printed n = omega arith
