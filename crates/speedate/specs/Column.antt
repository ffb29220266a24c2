-- Columns: the lines of a text as numbers.
use Rattle.std.specs.Prelude.{◌≡◌, ◌≢◌, ℕ, ◌-◌, ◌^◌, ◌<◌, ◌≤◌, Bool, true, false, ◌||◌, List, [], ◌∷◌, length, slice_index, take, drop, nat_lt, Option, Some, None, is_some, Result, Ok, Err, ℤ, pos, unsigned_abs, if◌then◌else◌}
use Rattle.std.specs.Option.{unwrap_or}
use Rattle.speedate_civil.specs.Base.{Behavior, ParseError}
use Rattle.speedate_base.specs.Ascii.{carriage_return}
use Rattle.speedate_base.specs.Config.{choices, time_choices}
use Rattle.speedate_base.specs.Fault.{fault_number}
use Rattle.speedate_base.specs.Part.{part_end}
use Rattle.speedate_base.specs.Refused.{refused_place, without_place}
use Rattle.speedate_base.specs.declared.refusal.Refused.{Refused}
use Rattle.speedate_base.specs.Requirement.{◌else_fault◌, ◌>>=◌, first_fault_or, result_and_then}
use Rattle.speedate_civil.specs.Calendar.{Ymd, days_between}
use Rattle.speedate_civil.specs.Date.{date_answer, date_or_timestamp}
use Rattle.speedate_civil.specs.DateTime.{DateAndTime, date_time_answer, date_time_by_config}
use Rattle.speedate_civil.specs.DateTime.{date_time_front, local_microsecond, utc_microsecond}
use Rattle.speedate_civil.specs.Form.{size_or_place}
use Rattle.speedate_civil.specs.Loose.{loose_answer, loose_front}
use Rattle.speedate_civil.specs.Strict.{strict_date_time, strict_date_time_answer}
use Rattle.speedate_civil.specs.Strict.{strict_time_answer}
use Rattle.speedate_civil.specs.Time.{TimeOfDay, microsecond_of_day, time_answer}
pub use Rattle.speedate.specs.declared.column.LineConfig.{LineConfig}
pub use Rattle.speedate.specs.declared.column.LineError.{LineError}
use Rattle.speedate.specs.declared.column.Line.{Line}
use Rattle.speedate.specs.declared.column.clock.DateTimeClockReader.{DateTimeClockReader}
use Rattle.speedate.specs.declared.column.clock.DateTimeOffsetReader.{DateTimeOffsetReader}
use Rattle.speedate.specs.declared.column.date.DateReader.{DateReader}
use Rattle.speedate.specs.declared.column.date_time.DateTimeParser.{DateTimeParser}
use Rattle.speedate.specs.declared.column.date_time.DateTimeReader.{DateTimeReader}
use Rattle.speedate.specs.declared.column.duration.DurationReader.{DurationReader}
use Rattle.speedate.specs.declared.column.front.DateTimeFront.{DateTimeFront}
use Rattle.speedate.specs.declared.column.front.DateTimeFrontReader.{DateTimeFrontReader}
use Rattle.speedate.specs.declared.column.time.TimeOffsetReader.{TimeOffsetReader}
use Rattle.speedate.specs.declared.column.time.TimeParser.{TimeParser}
use Rattle.speedate.specs.declared.column.time.TimeReader.{TimeReader}
use Rattle.speedate.specs.Duration.{duration_answer, signed_amount}
use Rattle.speedate.specs.DurationNumbers.{DurationNumbers}
use Rattle.speedate_base.specs.Lines.{IsOneLine, unfinished_line, whole_lines, without_return}

-- the numbers of lines, the number of the error of each, which is 0 for none, and the error of the
-- line after these, if it ends the column
pub record Column (N : Type 0) : Type 0 where
  pub numbers : List N
  pub errors : List ℕ
  pub fault : Option LineError

-- the number of an error
abbrev pub error_number : LineError → ℕ
error_number (LineError.Parse fault) = fault_number fault
error_number LineError.NumberTooLarge = 97

-- what a column holds of a line: its number, and 0; of a refused line the number that was passed
-- for it, if one was, and that of the error
abbrev pub entry : {N : Type 0} → Option N → Result N LineError → Result (N × ℕ) LineError
entry refused (Ok number) = Ok (number, 0)
entry (Some number) (Err fault) = Ok (number, error_number fault)
entry None (Err fault) = Err fault

-- a column with what it holds of a line put before it; a line of which it holds nothing ends it
abbrev pub onto_column : {N : Type 0} → Result (N × ℕ) LineError → Column N → Column N
onto_column (Ok entry) column = record {
  numbers = entry.0 ∷ column.numbers;
  errors = entry.1 ∷ column.errors;
  fault = column.fault;
}
onto_column (Err fault) column = record { numbers = []; errors = []; fault = Some fault }

-- the column of lines, by the answer to each
abbrev pub column : {N : Type 0} → (List ℕ → Result N LineError) → Option N → List (List ℕ)
    → Column N
column answer refused [] = record { numbers = []; errors = []; fault = None }
column answer refused (line ∷ lines) =
    onto_column (entry refused (answer line)) (column answer refused lines)

-- the answer to a line, whose carriage return may be dropped
abbrev pub line_answer : {N : Type 0} → (List ℕ → Result N LineError) → LineConfig → List ℕ
    → Result N LineError
line_answer answer config line = answer (without_return config.drops_returns line)

-- the column of the whole lines of a text, of as many as there is room for
unfoldable pub text_column : {N : Type 0} → (List ℕ → Result N LineError) → LineConfig → Option N
    → ℕ → List ℕ → Column N
text_column answer config refused room text =
    column (line_answer answer config) refused (take room (whole_lines config.at_end text))

-- where the part of a line ends that its error is about, which begins at this place
abbrev pub line_part_end : LineError → List ℕ → ℕ → ℕ
line_part_end (LineError.Parse fault) line place = part_end fault line place
line_part_end LineError.NumberTooLarge line place = length line

-- the part of a line that its error is about, by the place for which a line is refused
abbrev pub line_part : (List ℕ → ℕ) → LineError → List ℕ → ℕ × ℕ
line_part place error line = (place line, line_part_end error line (place line))

-- the part of the line that ends a column, which is the first of the lines that are left; 0 and 0
-- if none ends it
abbrev pub ended_part : (List ℕ → ℕ) → LineConfig → Option LineError → List (List ℕ) → ℕ × ℕ
ended_part place config None left = (0, 0)
ended_part place config (Some error) [] = (0, 0)
ended_part place config (Some error) (line ∷ left) =
    line_part place error (without_return config.drops_returns line)

-- there are bytes at the front of a text among which is no line feed, and which no carriage return
-- ends
pub record HasNoEnd (text : List ℕ) (size : ℕ) : Type 0 where
  pub there : 0 < size
  pub one_line : IsOneLine text 0 size
  pub no_return : slice_index text (size - 1) ≢ carriage_return

-- a number, and so many bytes at the front of a text that have it as a line and do not hold the
-- line's end
pub record IsFront {N : Type 0} (answer : List ℕ → Result N LineError) (text : List ℕ)
    (front : N × ℕ) : Type 0 where
  pub within : front.1 ≤ length text
  pub answered : answer (take front.1 text) ≡ Ok front.0
  pub no_end : HasNoEnd text front.1

-- the first whole line of a text takes so many bytes with its end, and this is what is read of it
pub record IsFirstLineOf (config : LineConfig) (text read : List ℕ) (size : ℕ) : Type 0 where
  pub first : List ℕ
  pub within : size ≤ length text
  pub lines : whole_lines config.at_end text ≡ first ∷ whole_lines config.at_end (drop size text)
  pub is_read : without_return config.drops_returns first ≡ read
  pub unfinished : config.at_end ≡ false → unfinished_line (drop size text) ≡ unfinished_line text

-- the first whole line of a text has this answer, and takes so many bytes with its end
pub record IsFirstLine {N : Type 0} (answer : List ℕ → Result N LineError) (config : LineConfig)
    (text : List ℕ) (line : Line N) : Type 0 where
  pub read : List ℕ
  pub first : IsFirstLineOf config text read line.size
  pub answered : line.answer ≡ answer read

-- a list, overwritten from its front by another, as far as it goes
abbrev pub overwritten : {N : Type 0} → List N → List N → List N
overwritten [] new = []
overwritten (one ∷ ones) [] = one ∷ ones
overwritten (one ∷ ones) (other ∷ others) = other ∷ overwritten ones others

-- Readers: the number of a line, or its error.

-- the value of an answer to a text as a number, or the error of the line
abbrev pub as_number : {A N : Type 0} → (A → N) → Result A ParseError → Result N LineError
as_number number (Ok value) = Ok (number value)
as_number number (Err fault) = Err (LineError.Parse fault)

-- the day from which days are counted (Unix time)
abbrev pub epoch : Ymd
epoch = record { year = 1970; month = 1; day = 1 }

-- the date of a line, or the fault and its place
abbrev pub date_of_line : DateReader → List ℕ → Result Ymd Refused
date_of_line DateReader.Text line = date_answer line
date_of_line (DateReader.OrTimestamp config) line = date_or_timestamp config.timestamp_unit line

-- the number of a line in a column of dates: the days since 1970-01-01
abbrev pub date_number : DateReader → List ℕ → Result ℤ LineError
date_number reader line = as_number (days_between epoch) (without_place (date_of_line reader line))

-- what a parser does with digits past the microsecond
abbrev pub text_behavior : DateTimeParser → Behavior
text_behavior (DateTimeParser.Text config) = (time_choices config).behavior
text_behavior (DateTimeParser.OrTimestamp config) = (choices config).behavior
text_behavior (DateTimeParser.Strict behavior) = behavior
text_behavior (DateTimeParser.Loose behavior) = behavior

-- whether a line that is a date-time is one for a parser, or the fault
abbrev pub taken_answer : DateTimeParser → List ℕ → Result (Unit {0}) ParseError
taken_answer (DateTimeParser.Text config) line = Ok tt
taken_answer (DateTimeParser.OrTimestamp config) line = Ok tt
taken_answer (DateTimeParser.Strict behavior) line = first_fault_or (strict_date_time line) (Ok tt)
taken_answer (DateTimeParser.Loose behavior) line = Ok tt

-- the date-time of a line, or the fault and its place
abbrev pub date_time_of_line : DateTimeParser → List ℕ → Result DateAndTime Refused
date_time_of_line (DateTimeParser.Text config) line =
    date_time_answer (time_choices config).behavior line
date_time_of_line (DateTimeParser.OrTimestamp config) line = date_time_by_config config line
date_time_of_line (DateTimeParser.Strict behavior) line = strict_date_time_answer behavior line
date_time_of_line (DateTimeParser.Loose behavior) line = loose_answer behavior line

-- a date-time that has an offset, or that is taken to be in UTC without one
abbrev pub with_offset : Bool → DateAndTime → Result DateAndTime ParseError
with_offset assumes_utc value =
    first_fault_or ((assumes_utc || is_some value.time.offset else_fault ParseError.TzRequired)
    ∷ [])
    (Ok value)

-- the number of a line in a column of date-times: the microseconds since 1970-01-01T00:00:00 in UTC
abbrev pub date_time_number : DateTimeReader → List ℕ → Result ℤ LineError
date_time_number reader line =
    as_number utc_microsecond
    (result_and_then (with_offset reader.assumes_utc)
    (without_place (date_time_of_line reader.parser line)))

-- the number of the date-time at the front of a line: the microseconds since 1970-01-01T00:00:00 in
-- UTC, and how many bytes it takes
abbrev pub front_number : Bool → Result (DateAndTime × ℕ) Refused → Result DateTimeFront LineError
front_number assumes_utc read = do
  front ← as_number (λ front. front) (without_place read)
  microseconds ← as_number utc_microsecond (with_offset assumes_utc front.0)
  Ok (record { microseconds = microseconds; size = front.1 })

-- the date-time at the front of a line, whatever follows it, or with a zone as programs print it,
-- and how many bytes it takes, or the fault and its place
abbrev pub front_of_line : Bool → Behavior → List ℕ → Result (DateAndTime × ℕ) Refused
front_of_line true behavior line = loose_front behavior line
front_of_line false behavior line = date_time_front behavior line

-- the number of a line in a column of date-times at the front of lines
abbrev pub date_time_front_number : DateTimeFrontReader → List ℕ → Result DateTimeFront LineError
date_time_front_number reader line =
    front_number reader.assumes_utc
    (front_of_line reader.is_loose (time_choices reader.config).behavior line)

-- the reader of the same date-times as whole lines
abbrev pub whole_reader : DateTimeFrontReader → DateTimeReader
whole_reader reader =
    record { parser = DateTimeParser.Text reader.config; assumes_utc = reader.assumes_utc }

-- an offset that has to be there
abbrev pub required_offset : Option ℤ → Result ℤ ParseError
required_offset (Some offset) = Ok offset
required_offset None = Err ParseError.TzRequired

-- the offset of an answer to a text as a number, its seconds, or the error of the line
abbrev pub offset_as_number : {A : Type 0} → (A → Option ℤ) → Result A ParseError
    → Result ℤ LineError
offset_as_number offset answer =
    as_number (λ second. second)
    (result_and_then (λ value. required_offset (offset value)) answer)

-- the number of a line in a column of date-times as their clocks show them: the microseconds since
-- 1970-01-01T00:00:00 on the same clock, whatever the offset
abbrev pub clock_number : DateTimeClockReader → List ℕ → Result ℤ LineError
clock_number reader line =
    as_number local_microsecond (without_place (date_time_of_line reader.parser line))

-- the number of a line in a column of the offsets of date-times: its seconds
abbrev pub date_time_offset_number : DateTimeOffsetReader → List ℕ → Result ℤ LineError
date_time_offset_number reader line =
    offset_as_number (λ value. value.time.offset)
    (without_place (date_time_of_line reader.parser line))

-- the time of a line, or the fault and its place
abbrev pub time_of_line : TimeParser → List ℕ → Result TimeOfDay Refused
time_of_line (TimeParser.Text config) line = time_answer (time_choices config).behavior line
time_of_line (TimeParser.Strict behavior) line = strict_time_answer behavior line

-- the number of a line in a column of times: the microseconds after midnight that its clock shows,
-- whatever the offset
abbrev pub time_number : TimeReader → List ℕ → Result ℤ LineError
time_number reader line =
    as_number (λ time. pos (microsecond_of_day time))
    (without_place (time_of_line reader.parser line))

-- the number of a line in a column of the offsets of times: its seconds
abbrev pub time_offset_number : TimeOffsetReader → List ℕ → Result ℤ LineError
time_offset_number reader line =
    offset_as_number (λ time. time.offset) (without_place (time_of_line reader.parser line))

-- microseconds as a number of 64 bits, whose smallest one is left free
abbrev pub number_of_amount : ℤ → Result ℤ LineError
number_of_amount amount =
    if nat_lt (unsigned_abs amount) (2 ^ 63) then Ok amount else Err LineError.NumberTooLarge

-- the number of the duration of a line, or the error
abbrev pub number_of_duration : Result DurationNumbers ParseError → Result ℤ LineError
number_of_duration (Ok duration) = number_of_amount (signed_amount duration)
number_of_duration (Err fault) = Err (LineError.Parse fault)

-- the number of a line in a column of durations: its microseconds, with the sign
abbrev pub duration_number : DurationReader → List ℕ → Result ℤ LineError
duration_number reader line =
    let chosen = time_choices reader.config in
    number_of_duration (without_place (duration_answer chosen.order chosen.behavior line))

-- Readers: the place for which a line is refused: the place of a text that is refused. If the text
-- is accepted, its number is refused.

-- the place of a line in a column of dates
abbrev pub date_place : DateReader → List ℕ → ℕ
date_place reader line = unwrap_or (refused_place (date_of_line reader line)) (length line)

-- the place of a line in a column of date-times: its end, if an offset is missing
abbrev pub date_time_place : DateTimeParser → List ℕ → ℕ
date_time_place parser line =
    unwrap_or (refused_place (date_time_of_line parser line)) (length line)

-- the place of a line in a column of date-times at the front of lines: the end of the date-time,
-- if an offset is missing
abbrev pub date_time_front_place : DateTimeFrontReader → List ℕ → ℕ
date_time_front_place reader line =
    size_or_place (front_of_line reader.is_loose (time_choices reader.config).behavior line)

-- the place of a line in a column of times: its end, if an offset is missing
abbrev pub time_place : TimeParser → List ℕ → ℕ
time_place parser line = unwrap_or (refused_place (time_of_line parser line)) (length line)

-- the place of a line in a column of durations: its beginning, if the number is too large
abbrev pub duration_place : DurationReader → List ℕ → ℕ
duration_place reader line =
    let chosen = time_choices reader.config in
    unwrap_or (refused_place (duration_answer chosen.order chosen.behavior line)) 0
