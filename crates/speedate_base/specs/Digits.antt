-- Digits at places of a text and in runs (RFC 3339 5.6, DIGIT: std's `is_ascii_digit`), and texts
-- of a fixed form. After the end of a text `slice_index` is 0, which is no digit, no sign and no
-- separator.
use Rattle.std.specs.Prelude.{ℕ, ◌+◌, ◌-◌, ◌*◌, ◌/◌, ◌%◌, Bool, true, nat_le, ◌&&◌, List, [], ◌∷◌, ◌++◌, slice_index, zero, suc, ◌^◌, length, take, drop, ◌||◌, ◌==◌, if◌then◌else◌}
use Rattle.std.specs.Char.{is_ascii_digit}
use Rattle.std.specs.List.{prefix_len}
use Rattle.speedate_base.specs.Ascii.{digit_zero, comma, full_stop}

-- what a digit stands for
abbrev pub one_digit_value : ℕ → ℕ
one_digit_value byte = byte - digit_zero

-- both bytes from a place on are digits
abbrev pub two_digits_at : List ℕ → ℕ → Bool
two_digits_at text place =
    is_ascii_digit (slice_index text place) && is_ascii_digit (slice_index text (place + 1))

-- the number that two digits from a place on spell
abbrev pub two_digit_value : List ℕ → ℕ → ℕ
two_digit_value text place =
    10 * one_digit_value (slice_index text place) + one_digit_value (slice_index text (place + 1))

-- all four bytes from a place on are digits
abbrev pub four_digits_at : List ℕ → ℕ → Bool
four_digits_at text place = two_digits_at text place && two_digits_at text (place + 2)

-- the number that four digits from a place on spell
abbrev pub four_digit_value : List ℕ → ℕ → ℕ
four_digit_value text place = 100 * two_digit_value text place + two_digit_value text (place + 2)

-- the digit of a number below 10
abbrev pub digit : ℕ → ℕ
digit n = digit_zero + n

-- a number below 100 in two digits
abbrev pub two_digit_text : ℕ → List ℕ
two_digit_text n = digit (n / 10) ∷ digit (n % 10) ∷ []

-- a number below 10,000 in four digits
abbrev pub four_digit_text : ℕ → List ℕ
four_digit_text n = two_digit_text (n / 100) ++ two_digit_text (n % 100)

-- a number below 1,000,000 in six digits
abbrev pub six_digit_text : ℕ → List ℕ
six_digit_text n = two_digit_text (n / 10000) ++ four_digit_text (n % 10000)

-- Runs of digits. `list_all is_ascii_digit` says that all bytes are digits.

-- how many digits stand from a place on, up to the first byte that is no digit
abbrev pub run_length : List ℕ → ℕ → ℕ
run_length text place = prefix_len is_ascii_digit (drop place text)

-- the digits from a place on
abbrev pub run_digits : List ℕ → ℕ → List ℕ
run_digits text place = take (run_length text place) (drop place text)

-- a byte is the digit 0
abbrev pub is_digit_zero : ℕ → Bool
is_digit_zero byte = byte == digit_zero

-- how many zeros stand at the front of a text
abbrev pub zeros_length : List ℕ → ℕ
zeros_length text = prefix_len is_digit_zero text

-- the number that digits spell in base ten: 0 for none
abbrev pub digits_value : List ℕ → ℕ
digits_value [] = 0
digits_value (digit ∷ digits) = one_digit_value digit * 10 ^ length digits + digits_value digits

-- the number that the digits from a place on spell
abbrev pub run_value : List ℕ → ℕ → ℕ
run_value text place = digits_value (run_digits text place)

-- what digits are worth as the first of a number of places: those past the places are dropped, and
-- missing ones are 0
abbrev pub fraction_value : ℕ → List ℕ → ℕ
fraction_value zero digits = 0
fraction_value (suc places) [] = 0
fraction_value (suc places) (digit ∷ digits) =
    one_digit_value digit * 10 ^ places + fraction_value places digits

-- a byte is a decimal mark: `.` or `,`
abbrev pub is_decimal_mark : ℕ → Bool
is_decimal_mark byte = (byte == full_stop) || (byte == comma)

-- Texts of a fixed form, written as they look: in a pattern `0` stands for a digit, and any other
-- byte for itself.

-- the eight bytes from a place on: 0 for those after the end of the text
abbrev pub eight_at : List ℕ → ℕ → List ℕ
eight_at text place =
    slice_index text place ∷ slice_index text (place + 1)
    ∷ slice_index text (place + 2) ∷ slice_index text (place + 3)
    ∷ slice_index text (place + 4) ∷ slice_index text (place + 5)
    ∷ slice_index text (place + 6) ∷ slice_index text (place + 7) ∷ []

-- a byte is as a pattern has it: a digit for `0`, and for any other byte that byte
abbrev pub fits_byte : ℕ → ℕ → Bool
fits_byte form byte = if form == digit_zero then is_ascii_digit byte else byte == form

-- each byte of a list is at most that of another at its place, as far as both go
abbrev pub are_at_most : List ℕ → List ℕ → Bool
are_at_most [] mosts = true
are_at_most (byte ∷ bytes) [] = true
are_at_most (byte ∷ bytes) (most ∷ mosts) = nat_le byte most && are_at_most bytes mosts

-- how many bytes, from the first on, are as a pattern has them
abbrev pub fit_length : List ℕ → List ℕ → ℕ
fit_length [] bytes = 0
fit_length (form ∷ forms) [] = 0
fit_length (form ∷ forms) (byte ∷ bytes) =
    if fits_byte form byte then 1 + fit_length forms bytes else 0

-- what the first `count` bytes stand for, which fit a pattern: a digit for its value, any other
-- byte for 0; each byte after them stands for 0
abbrev pub fit_digits : ℕ → List ℕ → List ℕ → List ℕ
fit_digits count [] bytes = []
fit_digits count (form ∷ forms) [] = []
fit_digits zero (form ∷ forms) (byte ∷ bytes) = 0 ∷ fit_digits zero forms bytes
fit_digits (suc count) (form ∷ forms) (byte ∷ bytes) = (byte - form) ∷ fit_digits count forms bytes

-- the numbers that any two neighbours spell, and the last one before a 0: 12, 23 and 30 for the
-- digits 1, 2 and 3
abbrev pub digit_pairs : List ℕ → List ℕ
digit_pairs [] = []
digit_pairs (tens ∷ []) = 10 * tens ∷ []
digit_pairs (tens ∷ ones ∷ digits) = (10 * tens + ones) ∷ digit_pairs (ones ∷ digits)
