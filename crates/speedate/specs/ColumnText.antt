-- The text of a column: a line for each number.
use Rattle.std.specs.Prelude.{◌⊎◌, ◌≡◌, ℕ, ◌*◌, ◌/◌, ◌%◌, ◌+◌, ◌-◌, ◌++◌, List, [], ◌∷◌, length, nat_lt, Option, Some, None, Result, Ok, Err, ℤ, pos, negsuc, int_le, if◌then◌else◌}
use Rattle.std.specs.Option.{ok_or, option_map}
use Rattle.std.specs.Ordering.{int_eq}
use Rattle.speedate_base.specs.Ascii.{line_feed}
use Rattle.speedate_base.specs.Requirement.{result_map}
use Rattle.speedate_base.specs.Timestamp.{instant_at, seconds_per_day}
use Rattle.speedate_civil.specs.Base.{ParseError, TimeConfig}
use Rattle.speedate_civil.specs.Calendar.{date_added}
use Rattle.speedate_civil.specs.Date.{date_text}
use Rattle.speedate_civil.specs.DateTime.{DateAndTime, IsDateAndTime, date_time_text}
use Rattle.speedate_civil.specs.DateTime.{instant_date_time, local_microsecond}
use Rattle.speedate_civil.specs.Time.{time_at, time_text}
use Rattle.speedate.specs.declared.column.clock.DateTimeClockReader.{DateTimeClockReader}
use Rattle.speedate.specs.declared.column.date.DateReader.{DateReader}
use Rattle.speedate.specs.declared.column.date_time.DateTimeParser.{DateTimeParser}
use Rattle.speedate.specs.declared.column.date_time.DateTimeReader.{DateTimeReader}
use Rattle.speedate.specs.declared.column.duration.DurationReader.{DurationReader}
use Rattle.speedate.specs.declared.column.time.TimeParser.{TimeParser}
use Rattle.speedate.specs.Column.{LineError, clock_number, date_number}
use Rattle.speedate.specs.Column.{date_time_number, duration_number, epoch, time_number}
use Rattle.speedate.specs.Duration.{duration_of_amount, duration_text}

-- the text of a column as far as there is room for it, how many numbers have a line in it, and why
-- the next number has none, if it has none
pub record ColumnText : Type 0 where
  pub text : List ℕ
  pub lines : ℕ
  pub fault : Option LineError

-- the text of no number
abbrev pub no_lines : Option LineError → ColumnText
no_lines fault = record { text = []; lines = 0; fault = fault }

-- a line, with a line feed, put before a text
abbrev pub onto_lines : List ℕ → ColumnText → ColumnText
onto_lines line rest = record {
  text = line ++ line_feed ∷ rest.text;
  lines = 1 + rest.lines;
  fault = rest.fault;
}

-- the line of a number before the text of the others, if there is one, and room for it and a line
-- feed
abbrev pub printed_line : ℕ → Result (List ℕ) LineError → ColumnText → ColumnText
printed_line room (Err fault) rest = no_lines (Some fault)
printed_line room (Ok line) rest =
    if nat_lt (length line) room then onto_lines line rest else no_lines None

-- how much room is left after a line and its line feed
abbrev pub room_after : ℕ → Result (List ℕ) LineError → ℕ
room_after room (Err fault) = room
room_after room (Ok line) = room - (length line + 1)

-- the text of numbers, in so much room, by the line of each
abbrev pub column_text : {N : Type 0} → (N → Result (List ℕ) LineError) → ℕ → List N → ColumnText
column_text line room [] = no_lines None
column_text line room (number ∷ numbers) =
    printed_line room (line number)
    (column_text line (room_after room (line number)) numbers)

-- the number that a column has of a line, where a refused line has a number
abbrev pub number_or : {N : Type 0} → N → Result N LineError → N
number_or refused (Ok number) = number
number_or refused (Err fault) = refused

-- Printers: the line of a number, or why it has none. The smallest number, which a column has of a
-- refused line, is an empty line.

-- the smallest number of 32 bits
abbrev pub least_of_32_bits : ℤ
least_of_32_bits = negsuc 2147483647

-- the smallest number of 64 bits
abbrev pub least_of_64_bits : ℤ
least_of_64_bits = negsuc 9223372036854775807

-- an answer as a line
abbrev pub as_line : Result (List ℕ) ParseError → Result (List ℕ) LineError
as_line (Ok line) = Ok line
as_line (Err fault) = Err (LineError.Parse fault)

-- a line that is empty for the smallest number
abbrev pub line_or_empty : ℤ → (ℤ → Result (List ℕ) ParseError) → ℤ → Result (List ℕ) LineError
line_or_empty least line number =
    if int_eq number least then Ok [] else as_line (line number)

-- the date so many days after 1970-01-01 in print
abbrev pub date_line : ℤ → Result (List ℕ) LineError
date_line =
    line_or_empty least_of_32_bits (λ days.
    ok_or (option_map date_text (date_added days epoch))
    (if int_le (pos 0) days then ParseError.DateTooLarge else ParseError.DateTooSmall))

-- the date-time with an offset, or without one, whose clock shows the instant so many microseconds
-- after 1970-01-01T00:00:00, in print
abbrev pub date_time_line : Option ℤ → ℤ → Result (List ℕ) LineError
date_time_line offset =
    line_or_empty least_of_64_bits (λ microsecond.
    result_map date_time_text (instant_date_time offset (instant_at microsecond)))

-- a line is empty for the smallest number, and otherwise shows the number as a date-time with this
-- offset
abbrev pub IsShownLine : Option ℤ → ℤ → List ℕ → Type 0
IsShownLine offset number line =
    ((number ≡ least_of_64_bits) × (line ≡ []))
    ⊎ ((value : DateAndTime) × IsDateAndTime value × (value.time.offset ≡ offset)
    × (local_microsecond value ≡ number) × (line ≡ date_time_text value))

-- the time so many microseconds after midnight in print
abbrev pub time_line_at : ℕ → Result (List ℕ) ParseError
time_line_at microsecond =
    if nat_lt microsecond (seconds_per_day * 1000000)
    then Ok (time_text (time_at (microsecond / 1000000) (microsecond % 1000000) None))
    else Err ParseError.TimeTooLarge

abbrev pub time_line_of : ℤ → Result (List ℕ) ParseError
time_line_of (pos microsecond) = time_line_at microsecond
time_line_of (negsuc below) = Err ParseError.TimeTooLarge

-- the same, if the number is one of a time
abbrev pub time_line : ℤ → Result (List ℕ) LineError
time_line = line_or_empty least_of_64_bits (λ microsecond. time_line_of microsecond)

-- the duration of so many microseconds in print
abbrev pub duration_line : ℤ → Result (List ℕ) LineError
duration_line =
    line_or_empty least_of_64_bits (λ amount. Ok (duration_text (duration_of_amount amount)))

-- Readers that lead back: the answers to lines, and the number of a refused line, by which the text
-- of a column is read as its numbers.

-- a parser reads texts without an offset too
abbrev pub IsRelaxed : DateTimeParser → Type 0
IsRelaxed (DateTimeParser.Text config) = Unit {0}
IsRelaxed (DateTimeParser.OrTimestamp config) = Unit {0}
IsRelaxed (DateTimeParser.Strict behavior) = ⊥
IsRelaxed (DateTimeParser.Loose behavior) = Unit {0}

abbrev pub ReadsDates : (List ℕ → Result ℤ LineError) → ℤ → Type 0
ReadsDates answer refused =
    (reader : DateReader) × (answer ≡ date_number reader) × (refused ≡ least_of_32_bits)

abbrev pub ReadsDateTimes : (List ℕ → Result ℤ LineError) → ℤ → Type 0
ReadsDateTimes answer refused =
    (reader : DateTimeReader) × IsRelaxed reader.parser
    × (answer ≡ date_time_number reader) × (refused ≡ least_of_64_bits)

abbrev pub ReadsClocks : (List ℕ → Result ℤ LineError) → ℤ → Type 0
ReadsClocks answer refused =
    (reader : DateTimeClockReader) × IsRelaxed reader.parser
    × (answer ≡ clock_number reader) × (refused ≡ least_of_64_bits)

abbrev pub ReadsTimes : (List ℕ → Result ℤ LineError) → ℤ → Type 0
ReadsTimes answer refused =
    (config : TimeConfig) × (answer ≡ time_number (record { parser = TimeParser.Text config }))
    × (refused ≡ least_of_64_bits)

abbrev pub ReadsDurations : (List ℕ → Result ℤ LineError) → ℤ → Type 0
ReadsDurations answer refused =
    (reader : DurationReader) × (answer ≡ duration_number reader) × (refused ≡ least_of_64_bits)
