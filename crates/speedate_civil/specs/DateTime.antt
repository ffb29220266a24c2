-- Date-times: from texts, from timestamps, at other offsets, and the order by instant.
use Rattle.std.specs.Prelude.{◌/◌, ℤ, pos, ◌+ℤ◌, ◌-ℤ◌, ◌*ℤ◌, ℕ, ◌+◌, ◌-◌, Bool, ◌||◌, ◌==◌, List, [], ◌∷◌, ◌++◌, drop, length, slice_index, Result, Ok, ◌≡◌, Option, Some, None, option_map, int_le, Err, if◌then◌else◌, ◌≤◌, true, take, is_some}
use Rattle.speedate_civil.specs.Base.{DateTimeConfig, Behavior, ParseError, TimestampUnit}
use Rattle.std.specs.Option.{unwrap_or}
use Rattle.std.specs.declared.cmp.Ordering.{Ordering}
use Rattle.speedate_base.specs.Ascii.{HasNoControl, space, capital_t, low_line, small_t}
use Rattle.speedate_base.specs.Numbers.{DecimalParts, Number, Whole, Fractional, NoNumber}
use Rattle.speedate_base.specs.Numbers.{number_answer}
use Rattle.speedate_base.specs.Offset.{offset_table}
use Rattle.speedate_base.specs.Timestamp.{UnitRow, decimal_row, decimal_instant, digits_row}
use Rattle.speedate_base.specs.Timestamp.{Instant, timestamp_microsecond, instant_answer}
use Rattle.speedate_base.specs.Timestamp.{range_answer, range_table, last_second, later_answer}
use Rattle.speedate_base.specs.Requirement.{TextRow, ◌else_fault◌, ◌at_byte◌, all_at_byte}
use Rattle.speedate_base.specs.Requirement.{first_fault_or, result_map, or_number, refused_at}
use Rattle.speedate_base.specs.Requirement.{with_size, ◌>>=◌}
use Rattle.speedate_base.specs.declared.refusal.Refused.{Refused}
use Rattle.speedate_base.specs.Refused.{alone_or, first_refused_or, from_byte, placed}
pub use Rattle.speedate_civil.specs.declared.datetime.DateTime.{DateTime}
use Rattle.speedate_civil.specs.declared.datetime.now.Moment.{Moment}
use Rattle.speedate_civil.specs.Instant.{by_instant, move_table}
use Rattle.speedate_civil.specs.Calendar.{Ymd, IsDate, midnight_second, date_of_number}
use Rattle.speedate_civil.specs.Date.{ymd, date_front, date_text, day_at, second_at}
use Rattle.speedate_civil.specs.Time.{microsecond_range, TimeOfDay, IsTime, second_of_day}
use Rattle.speedate_civil.specs.Time.{time_of_day, end_fault, time_front, time_text, time_at}
use Rattle.speedate_civil.specs.Time.{FractionDigits, time_text_with, cut_time}

-- a date-time by its date and its time of day
pub record DateAndTime : Type 0 where
  pub date : Ymd
  pub time : TimeOfDay

-- the numbers of a date-time are in their ranges
pub record IsDateAndTime (value : DateAndTime) : Type 0 where
  pub date : IsDate value.date
  pub time : IsTime value.time

-- the second of a date-time as its clock shows it, whatever the offset
abbrev pub local_second : DateAndTime → ℤ
local_second value = midnight_second value.date +ℤ pos (second_of_day value.time)

-- the second of a date-time in UTC: the offset is subtracted (RFC 3339 4.2); an absent one counts
-- as 0, which is the library's own rule
abbrev pub utc_second : DateAndTime → ℤ
utc_second value = local_second value -ℤ unwrap_or value.time.offset (pos 0)

-- the millisecond of a second, given apart, and of the microsecond of a date-time, rounded down
abbrev pub millisecond_in : ℤ → DateAndTime → ℤ
millisecond_in second value = pos 1000 *ℤ second +ℤ pos (value.time.microsecond / 1000)

-- the millisecond of a date-time as its clock shows it
abbrev pub local_millisecond : DateAndTime → ℤ
local_millisecond value = millisecond_in (local_second value) value

-- the millisecond of a date-time in UTC
abbrev pub utc_millisecond : DateAndTime → ℤ
utc_millisecond value = millisecond_in (utc_second value) value

-- the microsecond of a date-time as its clock shows it
abbrev pub local_microsecond : DateAndTime → ℤ
local_microsecond value = pos 1000000 *ℤ local_second value +ℤ pos value.time.microsecond

-- the microsecond of a date-time in UTC
abbrev pub utc_microsecond : DateAndTime → ℤ
utc_microsecond value = pos 1000000 *ℤ utc_second value +ℤ pos value.time.microsecond

-- the numbers of a date-time
abbrev pub date_and_time : DateTime → DateAndTime
date_and_time value = record { date = ymd value.date; time = time_of_day value.time }

infix 15 ◌gives◌
-- the answer of a call, a date-time seen as its numbers, is the given one
abbrev pub ◌gives◌ : {E : Type 0} → Result DateTime E → Result DateAndTime E → Type 0
result gives answer = result_map date_and_time result ≡ answer

infix 15 ◌gives_front◌
-- the answer of a call for the front of a text, a date-time seen as its numbers and how many bytes
-- it takes, is the given one
abbrev pub ◌gives_front◌ : {E : Type 0} → Result (DateTime × ℕ) E → Result (DateAndTime × ℕ) E
    → Type 0
result gives_front front = result_map (with_size date_and_time) result ≡ front

-- The text of a date-time: a date, a separator, and a time of day (RFC 3339 5.6, date-time).
-- Departs from it: as times do; the separator may be a space or `_` too (the notes of 5.6 allow a
-- space).

-- a byte that may stand between a date and a time
abbrev pub is_separator : ℕ → Bool
is_separator byte =
    (byte == capital_t) || (byte == small_t) || (byte == space) || (byte == low_line)

-- what a text that begins with a date has to meet to go on to a time
abbrev pub separator_table : List ℕ → List TextRow
separator_table text =
    (is_separator (slice_index text 10) else_fault ParseError.InvalidCharDateTimeSep at_byte 10)
    ∷ []

-- the date-time at the front of a text, a date, a separator and a time, and how many bytes it
-- takes, or the text's fault and its place
abbrev pub date_time_front : Behavior → List ℕ → Result (DateAndTime × ℕ) Refused
date_time_front behavior text = do
  date ← date_front text
  time ← first_refused_or (separator_table text) (from_byte 11 (time_front behavior (drop 11 text)))
  Ok (record { date = date.0; time = time.0 }, 11 + time.1)

-- the date-time that a text is, or the text's fault and its place
abbrev pub date_time_answer : Behavior → List ℕ → Result DateAndTime Refused
date_time_answer behavior text = do
  value ← date_time_front behavior text
  alone_or (λ read. end_fault read.time.offset) text value

-- so many bytes at the front of a text, none of them a control character, are a date-time for each
-- behavior, which has this microsecond in UTC, and an offset, unless one is assumed
pub record IsUtcFront (assumes_utc : Bool) (text : List ℕ) (front : ℤ × ℕ) : Type 0 where
  pub value : DateAndTime
  pub within : front.1 ≤ length text
  pub read : (behavior : Behavior) → date_time_answer behavior (take front.1 text) ≡ Ok value
  pub number : utc_microsecond value ≡ front.0
  pub offset : (assumes_utc || is_some value.time.offset) ≡ true
  pub no_control : HasNoControl front.1 text

-- the one text by which a date-time is printed
abbrev pub date_time_text : DateAndTime → List ℕ
date_time_text value = date_text value.date ++ capital_t ∷ time_text value.time

-- the text by which a date-time is printed with a number of digits
abbrev pub date_time_text_with : FractionDigits → DateAndTime → List ℕ
date_time_text_with digits value =
    date_text value.date ++ capital_t ∷ time_text_with digits value.time

-- the date-time that this text says: its microsecond is rounded down to these digits
abbrev pub cut_date_time : FractionDigits → DateAndTime → DateAndTime
cut_date_time digits value = record value { time = cut_time digits value.time }

-- Date-times from timestamps (Unix time), and from texts that are a timestamp instead.

-- the date-time at an instant, with the offset attached: nothing is shifted
abbrev pub date_time_at : Option ℤ → Instant → DateAndTime
date_time_at offset instant = record {
  date = date_of_number (day_at instant.second);
  time = time_at (second_at instant.second) instant.microsecond offset;
}

-- a date-time's clock shows the second and the microsecond of an instant as they are, with the
-- offset attached: nothing is shifted
pub record IsShownAt (offset : Option ℤ) (instant : Instant) (value : DateAndTime) : Type 0 where
  pub second : local_second value ≡ instant.second
  pub microsecond : value.time.microsecond ≡ instant.microsecond
  pub attached : value.time.offset ≡ offset

-- the date-time at an instant, or the fault of one outside the years 0000 to 9999
abbrev pub instant_date_time : Option ℤ → Instant → Result DateAndTime ParseError
instant_date_time offset instant = result_map (date_time_at offset) (range_answer instant)

-- the date-time of a timestamp and additional microseconds, or the fault: the unit's comes first,
-- then those of the sums, then those of the years
abbrev pub date_time_timestamp_answer : TimestampUnit → Option ℤ → ℕ → ℤ
    → Result DateAndTime ParseError
date_time_timestamp_answer unit offset microseconds timestamp = do
  instant ← instant_answer unit timestamp
  later ← later_answer microseconds instant
  instant_date_time offset later

-- the microseconds since 1970-01-01T00:00:00 that a timestamp and the additional ones mean
abbrev pub meant_microsecond : TimestampUnit → ℕ → ℤ → ℤ
meant_microsecond unit microseconds timestamp =
    timestamp_microsecond unit timestamp +ℤ pos microseconds

-- the date-time of a decimal timestamp, or the fault
abbrev pub date_time_decimal_answer : TimestampUnit → Option ℤ → DecimalParts
    → Result DateAndTime ParseError
date_time_decimal_answer unit offset decimal =
    instant_date_time offset (decimal_instant (decimal_row unit decimal) decimal)

-- the instant of a timestamp, in the years 0000 to 9999, or the fault
abbrev pub whole_instant : TimestampUnit → ℤ → Result Instant ParseError
whole_instant unit timestamp = do
  instant ← instant_answer unit timestamp
  later ← later_answer 0 instant
  range_answer later

-- what a text that is a decimal has to meet to be a timestamp: digits past the microsecond have a
-- place of their own
abbrev pub decimal_table : UnitRow → Behavior → List ℕ → DecimalParts → List TextRow
decimal_table row behavior text decimal =
    (digits_row behavior row decimal at_byte (length text - length decimal.fraction + row.digits))
    ∷ all_at_byte 0 (range_table (decimal_instant row decimal))

-- the instant of a decimal timestamp, which is all of a text, or the text's fault and its place
abbrev pub decimal_instant_answer : UnitRow → Behavior → List ℕ → DecimalParts
    → Result Instant Refused
decimal_instant_answer row behavior text decimal =
    first_refused_or (decimal_table row behavior text decimal) (Ok (decimal_instant row decimal))

-- the instant of a number, which is all of a text, if there is one, or the text's fault and its
-- place
abbrev pub number_instant : TimestampUnit → Behavior → List ℕ → Number
    → Option (Result Instant Refused)
number_instant unit behavior text (Whole timestamp) =
    Some (refused_at placed 0 (whole_instant unit timestamp))
number_instant unit behavior text (Fractional decimal) =
    Some (decimal_instant_answer (decimal_row unit decimal) behavior text decimal)
number_instant unit behavior text NoNumber = None

-- the date-time that a text is, as its text or as that of the instant of a timestamp, or the text's
-- fault and its place
abbrev pub date_time_or_timestamp : TimestampUnit → Behavior → Option ℤ → List ℕ
    → Result DateAndTime Refused
date_time_or_timestamp unit behavior offset text =
    or_number (option_map (result_map (date_time_at offset))
    (number_instant unit behavior text (number_answer text)))
    (date_time_answer behavior text)

-- the same, by a configuration
abbrev pub date_time_by_config : DateTimeConfig → List ℕ → Result DateAndTime Refused
date_time_by_config config text =
    let time = config.time_config in
    date_time_or_timestamp config.timestamp_unit
    time.microseconds_precision_overflow_behavior time.unix_timestamp_offset text

-- the moment of a second and a microsecond, as an instant, or the fault
abbrev pub new_moment_answer : ℕ → ℕ → Result Instant ParseError
new_moment_answer second microsecond =
    first_fault_or (microsecond_range microsecond ∷ [])
    (Ok (record { second = pos second; microsecond = microsecond }))

-- What a clock tells: a moment since 1970-01-01T00:00:00 in UTC (Unix time), or none if it stands
-- before that.

-- a moment as an instant
abbrev pub moment_instant : Moment → Instant
moment_instant moment = record { second = pos moment.second; microsecond = moment.microsecond }

-- the date-time of a moment, as a clock at the offset shows it, if it is in the years 0000 to 9999
abbrev pub moment_answer : ℤ → Moment → Result DateAndTime ParseError
moment_answer offset moment =
    first_fault_or
    ((int_le (pos moment.second) last_second else_fault ParseError.DateTooLarge)
    ∷ offset_table (Some offset))
    (instant_date_time (Some offset)
    (record { second = pos moment.second +ℤ offset; microsecond = moment.microsecond }))

-- the date-time of what a clock tells
abbrev pub now_answer : ℤ → Option Moment → Result DateAndTime ParseError
now_answer offset None = Err ParseError.SystemTimeError
now_answer offset (Some moment) = moment_answer offset moment

-- the date of what a clock tells
abbrev pub today_answer : ℤ → Option Moment → Result Ymd ParseError
today_answer offset told = result_map (λ value. value.date) (now_answer offset told)

-- Date-times at other offsets: the same clock with another offset, or the same instant as another
-- clock shows it.

-- a date-time with another offset, or with none: what the clock shows stays
abbrev pub date_time_with_offset : Option ℤ → DateAndTime → Result DateAndTime ParseError
date_time_with_offset offset value =
    first_fault_or (offset_table offset)
    (Ok (record value { time = record value.time { offset = offset } }))

-- the date-time at the same instant, as a clock at another offset shows it, if that is in the years
-- 0000 to 9999
abbrev pub date_time_in_timezone : ℤ → DateAndTime → Result DateAndTime ParseError
date_time_in_timezone offset value =
    first_fault_or (move_table offset value.time.offset)
    (instant_date_time (Some offset)
    (record { second = utc_second value +ℤ offset; microsecond = value.time.microsecond }))

-- The order of date-times by instant: in UTC if both have an offset, and otherwise as clocks show
-- them.

-- the instant of a date-time, in UTC or as a clock shows it
abbrev pub date_time_instant : Bool → DateAndTime → Instant
date_time_instant is_utc value = record {
  second = if is_utc then utc_second value else local_second value;
  microsecond = value.time.microsecond;
}

-- the order of date-times by instant
abbrev pub date_time_instant_order : DateAndTime → DateAndTime → Ordering
date_time_instant_order = by_instant (λ value. value.time.offset) date_time_instant
