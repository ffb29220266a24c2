-- The part of a text that a fault is about, from the fault's place on: what a form underlines.
use Rattle.std.specs.Prelude.{ℕ, ◌+◌, Bool, nat_le, nat_lt, ◌&&◌, ◌==◌, List, length, take, drop, min, slice_index, if◌then◌else◌, Option, Some, None}
use Rattle.std.specs.List.{position}
use Rattle.speedate_base.specs.Ascii.{colon}
use Rattle.speedate_base.specs.Digits.{run_length}
use Rattle.speedate_base.specs.Requirement.{ParseError}

-- a byte goes on with a character of UTF-8, which began before it
abbrev pub goes_on : ℕ → Bool
goes_on byte = nat_le 128 byte && nat_lt byte 192

-- how many bytes from a place on go on with a character: it has at most three after its first
abbrev pub rest_of_character : List ℕ → ℕ → ℕ
rest_of_character text place =
    if goes_on (slice_index text place)
    then (if goes_on (slice_index text (place + 1))
    then (if goes_on (slice_index text (place + 2)) then 3 else 2)
    else 1)
    else 0

-- the size of so many bytes at the front of a text, and of the rest of the character in which they
-- end; no more than the text has
abbrev pub bytes_size : ℕ → List ℕ → ℕ
bytes_size count text = min (count + rest_of_character text count) (length text)

-- the size of the digits at the front of a text; of one character if there are none
abbrev pub digits_size : List ℕ → ℕ
digits_size text = if run_length text 0 == 0 then bytes_size 1 text else run_length text 0

-- the size of the hours at the front of a text, which end before the colon at a place; of one
-- character if none ends them
abbrev pub hours_before : Option ℕ → List ℕ → ℕ
hours_before None text = bytes_size 1 text
hours_before (Some colon_place) text =
    if colon_place == 0 then bytes_size 1 text else colon_place

-- the same, where the colon is the first one: no more than ten bytes come before it
abbrev pub hours_size : List ℕ → ℕ
hours_size text = hours_before (position (λ byte. byte == colon) (take 11 text)) text

-- the size of the part that a fault is about, in the text from its place on
abbrev pub part_size : ParseError → List ℕ → ℕ
part_size ParseError.TooShort text = 0
part_size ParseError.ExtraCharacters text = length text
part_size ParseError.InvalidCharDateTimeSep text = bytes_size 1 text
part_size ParseError.InvalidCharDateSep text = bytes_size 1 text
part_size ParseError.DateNotExact text = length text
part_size ParseError.InvalidCharYear text = bytes_size 4 text
part_size ParseError.InvalidCharMonth text = bytes_size 2 text
part_size ParseError.InvalidCharDay text = bytes_size 2 text
part_size ParseError.InvalidCharTimeSep text = bytes_size 1 text
part_size ParseError.InvalidCharHour text = hours_size text
part_size ParseError.InvalidCharMinute text = bytes_size 2 text
part_size ParseError.InvalidCharSecond text = bytes_size 2 text
part_size ParseError.InvalidCharSecondFraction text = bytes_size 1 text
part_size ParseError.InvalidCharTzSign text = bytes_size 1 text
part_size ParseError.InvalidCharTzHour text = bytes_size 2 text
part_size ParseError.InvalidCharTzMinute text = bytes_size 2 text
part_size ParseError.OutOfRangeTzMinute text = bytes_size 2 text
part_size ParseError.OutOfRangeTz text = bytes_size 2 text
part_size ParseError.TzRequired text = 0
part_size ParseError.SystemTimeError text = 0
part_size ParseError.OutOfRangeMonth text = bytes_size 2 text
part_size ParseError.OutOfRangeDay text = bytes_size 2 text
part_size ParseError.OutOfRangeHour text = bytes_size 2 text
part_size ParseError.OutOfRangeMinute text = bytes_size 2 text
part_size ParseError.OutOfRangeSecond text = bytes_size 2 text
part_size ParseError.SecondFractionTooLong text = digits_size text
part_size ParseError.SecondFractionMissing text = bytes_size 1 text
part_size ParseError.MillisecondFractionTooLong text = digits_size text
part_size ParseError.DurationInvalidNumber text = bytes_size 1 text
part_size ParseError.DurationTRepeated text = bytes_size 1 text
part_size ParseError.DurationInvalidFraction text = digits_size text
part_size ParseError.DurationInvalidTimeUnit text = bytes_size 1 text
part_size ParseError.DurationInvalidDateUnit text = bytes_size 1 text
part_size ParseError.DurationInvalidDays text = bytes_size 1 text
part_size ParseError.DurationValueTooLarge text = digits_size text
part_size ParseError.DurationHourValueTooLarge text = digits_size text
part_size ParseError.DurationDaysTooLarge text = digits_size text
part_size ParseError.DateTooSmall text = length text
part_size ParseError.DateTooLarge text = length text
part_size ParseError.TimeTooLarge text = length text
part_size ParseError.DurationUnitOrder text = bytes_size 1 text
part_size ParseError.MicrosecondFractionTooLong text = digits_size text

-- where the part ends that a fault is about, which begins at its place
abbrev pub part_end : ParseError → List ℕ → ℕ → ℕ
part_end fault text place = place + part_size fault (drop place text)
