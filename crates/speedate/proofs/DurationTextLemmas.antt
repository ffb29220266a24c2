-- What is printed of a duration: a number in digits, from the last two to the first, and that each
-- part is short.
use Rattle.std.proofs.Common.{rules, append_assoc, arith, lit<, ◌≡◌, ℕ, ◌+◌, ◌/◌, ◌%◌, ◌^◌, ◌<◌, ◌≤◌, Bool, List, [], ◌∷◌, ◌++◌, length, if◌then◌else◌, decimal}
use Rattle.std.proofs.lemmas.List.{length-append}
use Rattle.std.proofs.lemmas.Fmt.{decimal_digit, decimal_step, length-decimal-le}
use Rattle.std.proofs.lemmas.Str.{encode_ascii}
use Rattle.speedate_base.specs.Ascii.{capital_d, capital_h, capital_m, capital_y}
use Rattle.speedate_base.specs.Digits.{two_digit_text}
use Rattle.speedate.specs.Duration.{counted_text, short_fraction_text, start_text}

-- a number of two digits
pub decimal-two : (number : ℕ) → 10 ≤ number → number < 100 → decimal number ≡ two_digit_text number
decimal-two number long small = search (rules, decimal_step, decimal_digit)

two-more : (front : List ℕ) (tens ones : ℕ)
    → (front ++ tens ∷ []) ++ ones ∷ [] ≡ front ++ tens ∷ ones ∷ []
two-more front tens ones = simp append_assoc

-- a longer one is the digits before its last two, and those
pub decimal-pair : (number : ℕ) → 100 ≤ number → number < 2 ^ 32
    → decimal number ≡ decimal (number / 100) ++ two_digit_text (number % 100)
decimal-pair number long small = search (rules, decimal_step, two-more)

-- and of five digits or more, those before its last four, and those
pub decimal-pairs : (number : ℕ) → 10000 ≤ number → number < 2 ^ 32
    → decimal number ≡ (decimal (number / 10000) ++ two_digit_text (number / 100 % 100))
    ++ two_digit_text (number % 100)
decimal-pairs number long small = search (rules, decimal-pair)

-- what printers of numbers cite
pub ruleset printed_digits = (
  decimal-two,
  decimal-pair,
  decimal-pairs,
  decimal_digit,
  encode_ascii,
  length-append,
  append_assoc,
)

-- a number and its unit
counted-length : (places number unit : ℕ) → 0 < places → number < 10 ^ places → number < 2 ^ 32
    → length (counted_text number unit) ≤ places + 1
counted-length places number unit some small fits = search (rules, length-append, length-decimal-le)

pub years-length : (day : ℕ) → day ≤ 999999999 → length (counted_text (day / 365) capital_y) ≤ 8
years-length day few =
    counted-length 7 (day / 365) capital_y (lit< tt) (omega (arith, few)) (omega (arith, few))

pub days-length : (day : ℕ) → length (counted_text (day % 365) capital_d) ≤ 4
days-length day = counted-length 3 (day % 365) capital_d (lit< tt) (omega arith) (omega arith)

pub hours-length : (second : ℕ) → second < 86400
    → length (counted_text (second / 3600) capital_h) ≤ 3
hours-length second few =
    counted-length 2 (second / 3600) capital_h (lit< tt) (omega (arith, few)) (omega (arith, few))

pub minutes-length : (second : ℕ) → length (counted_text (second / 60 % 60) capital_m) ≤ 3
minutes-length second =
    counted-length 2 (second / 60 % 60) capital_m (lit< tt) (omega arith) (omega arith)

-- a fraction
pub fraction-length : (microsecond : ℕ) → length (short_fraction_text microsecond) ≤ 7
fraction-length microsecond = search rules

-- seconds
pub second-length : (second : ℕ) → second < 60 → length (decimal second) ≤ 2
second-length second small =
    length-decimal-le 2 second (lit< tt) (omega (arith, small)) (omega (arith, small))

pub start-length : (positive : Bool) → length (start_text positive) ≤ 2
start-length positive = search (rules)

-- what printers of durations cite
pub ruleset printed_lengths = (
  start-length,
  years-length,
  days-length,
  hours-length,
  minutes-length,
  fraction-length,
  second-length,
  encode_ascii,
  length-append,
)
