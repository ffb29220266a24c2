-- Dates: from their numbers, from texts, and from timestamps.
use Rattle.std.specs.Prelude.{ℕ, pos, List, [], ◌∷◌, nat_le, ℤ, Option, Result, Ok, ◌++◌, length, ◌==◌, slice_index, Bool, true, ◌&&◌, ◌+ℤ◌, unsigned_abs, option_map, ◌≡◌}
use Rattle.std.specs.Int.{is_in_range, int_div_euclid, int_rem_euclid}
use Rattle.speedate_civil.specs.Base.{ParseError, TimestampUnit}
use Rattle.speedate_base.specs.Ascii.{hyphen}
use Rattle.speedate_base.specs.Digits.{four_digits_at, four_digit_value, four_digit_text}
use Rattle.speedate_base.specs.Digits.{two_digits_at, two_digit_value, two_digit_text}
use Rattle.speedate_base.specs.Numbers.{whole_number}
use Rattle.speedate_base.specs.Timestamp.{seconds_per_day, Instant, instant_answer, range_answer}
use Rattle.speedate_base.specs.Requirement.{NumberRow, TextRow, ◌else_fault◌, ◌at_byte◌}
use Rattle.speedate_base.specs.declared.refusal.Refused.{Refused}
use Rattle.speedate_base.specs.Refused.{alone_or, first_refused_or, placed}
use Rattle.speedate_base.specs.Requirement.{first_fault_or, ◌implies◌, or_number, refused_at}
use Rattle.speedate_base.specs.Requirement.{result_map, with_size, ◌>>=◌}
pub use Rattle.speedate_civil.specs.declared.date.Date.{Date}
use Rattle.speedate_civil.specs.Calendar.{Ymd, month_length, epoch_day, date_of_number}

-- the numbers of a date
abbrev pub ymd : Date → Ymd
ymd date = record { year = date.year; month = date.month; day = date.day }

infix 15 ◌gives◌
-- the answer of a call, a date seen as its numbers, is the given one
abbrev pub ◌gives◌ : {E : Type 0} → Result Date E → Result Ymd E → Type 0
result gives answer = result_map ymd result ≡ answer

infix 15 ◌gives_front◌
-- the answer of a call for the front of a text, a date seen as its numbers and how many bytes it
-- takes, is the given one
abbrev pub ◌gives_front◌ : {E : Type 0} → Result (Date × ℕ) E → Result (Ymd × ℕ) E → Type 0
result gives_front front = result_map (with_size ymd) result ≡ front

-- what a month has to meet
abbrev pub month_row : Ymd → NumberRow
month_row date = is_in_range 1 12 date.month else_fault ParseError.OutOfRangeMonth

-- what a day has to meet
abbrev pub day_row : Ymd → NumberRow
day_row date =
    is_in_range 1 (month_length date.year date.month) date.day else_fault ParseError.OutOfRangeDay

-- the date of a year, a month and a day, or the fault of one that is out of range: the year is
-- looked at first
abbrev pub new_date_answer : ℕ → ℕ → ℕ → Result Ymd ParseError
new_date_answer year month day =
    let date : Ymd = record { year = year; month = month; day = day } in
    first_fault_or
    ((nat_le year 9999 else_fault ParseError.DateTooLarge) ∷ month_row date ∷ day_row date ∷ [])
    (Ok date)

-- The text of a date, `YYYY-MM-DD` (RFC 3339 5.6, full-date; the ranges of month and day are those
-- of its 5.7). Departs from it nowhere.

-- the numbers at their places in the text of a date
abbrev pub date_numbers : List ℕ → Ymd
date_numbers text = record {
  year = four_digit_value text 0;
  month = two_digit_value text 5;
  day = two_digit_value text 8;
}

-- what the first ten bytes of a text have to meet to be a date
abbrev pub date_table : List ℕ → List TextRow
date_table text = let date = date_numbers text in
    (nat_le 10 (length text) else_fault ParseError.TooShort at_byte length text)
    ∷ (four_digits_at text 0 else_fault ParseError.InvalidCharYear at_byte 0)
    ∷ (slice_index text 4 == hyphen else_fault ParseError.InvalidCharDateSep at_byte 4)
    ∷ (two_digits_at text 5 else_fault ParseError.InvalidCharMonth at_byte 5)
    ∷ (slice_index text 7 == hyphen else_fault ParseError.InvalidCharDateSep at_byte 7)
    ∷ (two_digits_at text 8 else_fault ParseError.InvalidCharDay at_byte 8)
    ∷ (month_row date at_byte 5)
    ∷ (day_row date at_byte 8)
    ∷ []

-- the date at the front of a text, and how many bytes it takes, or the text's fault and its place
abbrev pub date_front : List ℕ → Result (Ymd × ℕ) Refused
date_front text = first_refused_or (date_table text) (Ok (date_numbers text, 10))

-- the date that a text is, or the text's fault and its place
abbrev pub date_answer : List ℕ → Result Ymd Refused
date_answer text = do
  date ← date_front text
  alone_or (λ read. ParseError.ExtraCharacters) text date

-- the one text by which a date is printed
abbrev pub date_text : Ymd → List ℕ
date_text date =
    four_digit_text date.year ++ hyphen ∷ two_digit_text date.month ++ hyphen
    ∷ two_digit_text date.day

-- Dates from timestamps (Unix time), and from texts that are a timestamp instead.

-- the day number of a second since 1970-01-01T00:00:00: the whole days since then, rounded down,
-- and those before it; it is negative before the year 0
abbrev pub day_number_at : ℤ → ℤ
day_number_at second = int_div_euclid second (pos seconds_per_day) +ℤ pos epoch_day

-- the day number of a second since 1970-01-01T00:00:00, from the year 0 on
abbrev pub day_at : ℤ → ℕ
day_at second = unsigned_abs (day_number_at second)

-- the second of its day for a second since 1970-01-01T00:00:00
abbrev pub second_at : ℤ → ℕ
second_at second = unsigned_abs (int_rem_euclid second (pos seconds_per_day))

-- the date of an instant, or the fault of one that is no midnight, if an exact date is asked for
abbrev pub instant_date : Bool → Instant → Result Ymd ParseError
instant_date exact instant =
    let is_midnight = (second_at instant.second == 0) && (instant.microsecond == 0) in
    first_fault_or (((exact implies is_midnight) else_fault ParseError.DateNotExact) ∷ [])
    (Ok (date_of_number (day_at instant.second)))

-- the date of a timestamp, or the fault: the unit's comes first, then those of the years
abbrev pub date_timestamp_answer : TimestampUnit → Bool → ℤ → Result Ymd ParseError
date_timestamp_answer unit exact timestamp = do
  instant ← instant_answer unit timestamp
  within ← range_answer instant
  instant_date exact within

-- the answer to a text that is a number, which is an exact timestamp as a whole
abbrev pub date_number_answer : TimestampUnit → Option ℤ → Option (Result Ymd Refused)
date_number_answer unit number =
    option_map (λ timestamp. refused_at placed 0 (date_timestamp_answer unit true timestamp)) number

-- the date that a text is, as its text or as an exact timestamp, or the text's fault and its place
abbrev pub date_or_timestamp : TimestampUnit → List ℕ → Result Ymd Refused
date_or_timestamp unit text =
    or_number (date_number_answer unit (whole_number text)) (date_answer text)
