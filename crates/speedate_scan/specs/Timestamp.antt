-- Unix timestamps: numbers at the front of a text that count seconds, milliseconds or microseconds.
use Rattle.std.specs.Prelude.{ℕ, ◌+◌, ◌==◌, ◌&&◌, Bool, true, false, List, slice_index, if◌then◌else◌}
use Rattle.std.specs.Char.{is_ascii_digit}
use Rattle.speedate.specs.Ascii.{full_stop, hyphen}
use Rattle.speedate.specs.Base.{TimestampUnit}
use Rattle.speedate_base.specs.Digits.{run_length}
use Rattle.speedate_base.specs.Numbers.{Fractional, NoNumber, Number, Whole, number_answer}

-- a number was read
abbrev pub is_one : Number → Bool
is_one (Whole n) = true
is_one (Fractional decimal) = true
is_one NoNumber = false

-- how many bytes the sign of a number takes: one for a minus
abbrev pub minus_length : List ℕ → ℕ
minus_length text = if slice_index text 0 == hyphen then 1 else 0

-- how many digits a number at the front of a text has before its point
unfoldable pub whole_digits : List ℕ → ℕ
whole_digits text = run_length text (minus_length text)

-- the fewest digits before the point of a timestamp of a line: timestamps since 1973 have as many
-- or more
abbrev pub fewest_digits : TimestampUnit → ℕ
fewest_digits TimestampUnit.Second = 9
fewest_digits TimestampUnit.Millisecond = 12
fewest_digits TimestampUnit.Microsecond = 15
fewest_digits TimestampUnit.Infer = 9

-- a number in this unit may have a point, and digits after it
abbrev pub takes_point : TimestampUnit → Bool
takes_point TimestampUnit.Second = true
takes_point TimestampUnit.Millisecond = true
takes_point TimestampUnit.Microsecond = false
takes_point TimestampUnit.Infer = true

-- a point and a digit stand at a place of a text
abbrev pub has_fraction : List ℕ → ℕ → Bool
has_fraction text place =
    (slice_index text place == full_stop) && is_ascii_digit (slice_index text (place + 1))

-- the end of a number whose digits before the point end at a place
abbrev pub number_end : TimestampUnit → List ℕ → ℕ → ℕ
number_end unit text place =
    if takes_point unit && has_fraction text place
    then (place + 1) + run_length text (place + 1) else place

-- how many bytes a number at the front of a text takes
unfoldable pub number_length : TimestampUnit → List ℕ → ℕ
number_length unit text =
    number_end unit text (minus_length text + run_length text (minus_length text))

-- the library reads a text as a number: its whole part has at most 64 bits, if it has no point
abbrev pub has_number : List ℕ → Bool
has_number text = is_one (number_answer text)
