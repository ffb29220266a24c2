-- Times of day: from their numbers, and from texts, a clock and an offset.
use Rattle.std.specs.Prelude.{ℕ, ◌+◌, ◌*◌, ◌/◌, ◌%◌, ◌≤◌, Option, ℤ, pos, ◌-ℤ◌, Result, Ok, [], ◌∷◌, nat_lt, List, nat_le, Bool, ◌&&◌, ◌||◌, ◌++◌, length, drop, ◌==◌, slice_index, if◌then◌else◌, true, Some, None, unsigned_abs, is_some, not, ◌≡◌, ◌+ℤ◌, int_le, int_lt}
use Rattle.std.specs.Char.{is_ascii_digit}
use Rattle.std.specs.Int.{is_negative}
use Rattle.std.specs.Option.{ForSome, unwrap_or}
use Rattle.std.specs.declared.cmp.Ordering.{Ordering}
use Rattle.speedate_civil.specs.Base.{Behavior, ParseError}
use Rattle.speedate_base.specs.Ascii.{colon, full_stop, plus_sign, hyphen, capital_z, small_z}
use Rattle.speedate_base.specs.Config.{refuses_digits}
use Rattle.speedate_base.specs.Digits.{run_length, run_digits, fraction_value, two_digits_at}
use Rattle.speedate_base.specs.Digits.{two_digit_value, two_digit_text, six_digit_text}
use Rattle.speedate_base.specs.Digits.{digit, is_decimal_mark}
use Rattle.speedate_base.specs.Numbers.{with_sign}
use Rattle.speedate_base.specs.Offset.{IsOffset, offset_table}
use Rattle.speedate_base.specs.Timestamp.{Instant, seconds_per_day}
use Rattle.speedate_base.specs.Requirement.{NumberRow, TextRow, ◌else_fault◌, ◌at_byte◌}
use Rattle.speedate_base.specs.declared.refusal.Refused.{Refused}
use Rattle.speedate_base.specs.Refused.{alone_or, first_refused_or, from_byte}
use Rattle.speedate_base.specs.Requirement.{first_fault_or, moved, ◌implies◌, result_map}
use Rattle.speedate_base.specs.Requirement.{with_size, ◌>>=◌}
pub use Rattle.speedate_civil.specs.declared.time.Time.{Time}
pub use Rattle.speedate_civil.specs.declared.time.digits.FractionDigits.{FractionDigits}
use Rattle.speedate_civil.specs.declared.time.pure.PureTime.{PureTime}
use Rattle.speedate_civil.specs.Instant.{by_instant, move_table}

-- a time of day by its numbers, and its offset from UTC in seconds, if it has one
pub record TimeOfDay : Type 0 where
  pub hour : ℕ
  pub minute : ℕ
  pub second : ℕ
  pub microsecond : ℕ
  pub offset : Option ℤ

-- the numbers of a time of day are in their ranges (RFC 3339 5.7, without the leap second)
pub record IsTime (time : TimeOfDay) : Type 0 where
  pub hour : time.hour ≤ 23
  pub minute : time.minute ≤ 59
  pub second : time.second ≤ 59
  pub microsecond : time.microsecond ≤ 999999
  pub offset : ForSome time.offset IsOffset

-- the seconds of a time since midnight
abbrev pub second_of_day : TimeOfDay → ℕ
second_of_day time = 3600 * time.hour + 60 * time.minute + time.second

-- the seconds of a time since midnight in UTC: the offset is subtracted (RFC 3339 4.2), and an
-- absent one counts as 0, which is the library's own rule; a time at an offset can lie on the day
-- before, or on the day after
abbrev pub utc_second_of_day : TimeOfDay → ℤ
utc_second_of_day time = pos (second_of_day time) -ℤ unwrap_or time.offset (pos 0)

-- the milliseconds of a time since midnight, rounded down
abbrev pub millisecond_of_day : TimeOfDay → ℕ
millisecond_of_day time = 1000 * second_of_day time + time.microsecond / 1000

-- the microseconds of a time since midnight
abbrev pub microsecond_of_day : TimeOfDay → ℕ
microsecond_of_day time = 1000000 * second_of_day time + time.microsecond

-- the time of seconds and less than a million microseconds after midnight
abbrev pub time_at : ℕ → ℕ → Option ℤ → TimeOfDay
time_at seconds microsecond offset = record {
  hour = seconds / 3600;
  minute = seconds / 60 % 60;
  second = seconds % 60;
  microsecond = microsecond;
  offset = offset;
}

-- the time of seconds and microseconds after midnight, with the offset attached, if it is still the
-- same day
abbrev pub timestamp_answer : ℕ → ℕ → Option ℤ → Result TimeOfDay ParseError
timestamp_answer seconds microseconds offset =
    let whole = seconds + microseconds / 1000000 in
    first_fault_or ((nat_lt whole seconds_per_day else_fault ParseError.TimeTooLarge) ∷ [])
    (Ok (time_at whole (microseconds % 1000000) offset))

-- the numbers of a time
abbrev pub time_of_day : Time → TimeOfDay
time_of_day time = record {
  hour = time.hour;
  minute = time.minute;
  second = time.second;
  microsecond = time.microsecond;
  offset = time.tz_offset;
}

infix 15 ◌gives◌
-- the answer of a call, a time seen as its numbers, is the given one
abbrev pub ◌gives◌ : {E : Type 0} → Result Time E → Result TimeOfDay E → Type 0
result gives answer = result_map time_of_day result ≡ answer

infix 15 ◌gives_front◌
-- the answer of a call for the front of a text, a time seen as its numbers and how many bytes it
-- takes, is the given one
abbrev pub ◌gives_front◌ : {E : Type 0} → Result (Time × ℕ) E → Result (TimeOfDay × ℕ) E → Type 0
result gives_front front = result_map (with_size time_of_day) result ≡ front

-- what microseconds of a second have to meet
abbrev pub microsecond_range : ℕ → NumberRow
microsecond_range microsecond = nat_le microsecond 999999 else_fault ParseError.TimeTooLarge

-- the time of an hour, a minute, a second, a microsecond and an offset, or the fault of the first
-- that is out of range
abbrev pub new_time_answer : ℕ → ℕ → ℕ → ℕ → Option ℤ → Result TimeOfDay ParseError
new_time_answer hour minute second microsecond offset =
    first_fault_or (
    (nat_le hour 23 else_fault ParseError.OutOfRangeHour)
    ∷ (nat_le minute 59 else_fault ParseError.OutOfRangeMinute)
    ∷ (nat_le second 59 else_fault ParseError.OutOfRangeSecond)
    ∷ microsecond_range microsecond
    ∷ offset_table offset)
    (Ok (record {
      hour = hour;
      minute = minute;
      second = second;
      microsecond = microsecond;
      offset = offset;
    }))

-- A clock at the front of a text: an hour, a minute, and a second with a fraction (RFC 3339 5.6,
-- partial-time; the ranges are those of its 5.7). `text` begins with the hour, and `rest` with the
-- minute. Departs from it: there is no second 60; a fraction has at most six digits, or further
-- ones are dropped; the second may be left out, with its fraction; the decimal mark may be a comma,
-- as in ISO 8601.

-- the numbers of a clock, and how many bytes of the text it takes
pub record Clock : Type 0 where
  pub hour : ℕ
  pub minute : ℕ
  pub second : ℕ
  pub microsecond : ℕ
  pub size : ℕ

-- a second follows the minute of a clock, after `:`
abbrev pub has_second : List ℕ → Bool
has_second rest = slice_index rest 2 == colon

-- a decimal mark stands where the second of a clock ends
abbrev pub has_decimal_mark : List ℕ → Bool
has_decimal_mark rest = is_decimal_mark (slice_index rest 5)

-- a fraction follows the second of a clock
abbrev pub has_fraction : List ℕ → Bool
has_fraction rest = has_second rest && has_decimal_mark rest

-- the clock of hour 0 whose minute stands at the front of a text
abbrev pub minute_clock : List ℕ → Clock
minute_clock rest = record {
  hour = 0;
  minute = two_digit_value rest 0;
  second = if has_second rest then two_digit_value rest 3 else 0;
  microsecond = if has_fraction rest then fraction_value 6 (run_digits rest 6) else 0;
  size = if has_fraction rest then 6 + run_length rest 6 else (if has_second rest then 5 else 2);
}

-- a clock with an hour before its minute: two digits and `:`, three bytes more
abbrev pub at_hour : ℕ → Clock → Clock
at_hour hour clock = record clock { hour = hour; size = 3 + clock.size }

-- what a text has to meet to begin with an hour
abbrev pub hour_table : List ℕ → List TextRow
hour_table text =
    (nat_le 5 (length text) else_fault ParseError.TooShort at_byte length text)
    ∷ (two_digits_at text 0 else_fault ParseError.InvalidCharHour at_byte 0)
    ∷ (slice_index text 2 == colon else_fault ParseError.InvalidCharTimeSep at_byte 2)
    ∷ []

-- what the minute of a clock has to meet: its characters are digits
abbrev pub minute_digits : List ℕ → List TextRow
minute_digits rest = (two_digits_at rest 0 else_fault ParseError.InvalidCharMinute at_byte 0) ∷ []

-- what the hour of a clock has to meet: its range
abbrev pub hour_range : List ℕ → List TextRow
hour_range text =
    (nat_le (two_digit_value text 0) 23 else_fault ParseError.OutOfRangeHour at_byte 0) ∷ []

-- what the second of a clock, and its fraction, have to meet, if they are there
abbrev pub second_table : Behavior → List ℕ → List TextRow
second_table behavior rest =
    ((has_second rest implies two_digits_at rest 3)
    else_fault ParseError.InvalidCharSecond at_byte 3)
    ∷ ((has_second rest implies nat_le (two_digit_value rest 3) 59)
    else_fault ParseError.OutOfRangeSecond at_byte 3)
    ∷ ((has_fraction rest implies nat_lt 0 (run_length rest 6))
    else_fault ParseError.SecondFractionMissing at_byte 6)
    ∷ (((has_fraction rest && refuses_digits behavior) implies nat_le (run_length rest 6) 6)
    else_fault ParseError.SecondFractionTooLong at_byte 12)
    ∷ []

-- what a clock has to meet after the digits of its minute: the minute's range, then the second and
-- the fraction
abbrev pub minute_table : Behavior → List ℕ → List TextRow
minute_table behavior rest =
    (nat_le (two_digit_value rest 0) 59 else_fault ParseError.OutOfRangeMinute at_byte 0)
    ∷ second_table behavior rest

-- the clock whose minute begins a text, given that it is two digits, or the fault and its place
abbrev pub clock_answer : Behavior → List ℕ → Result Clock Refused
clock_answer behavior rest =
    first_refused_or (minute_table behavior rest) (Ok (minute_clock rest))

-- the clock, from its minute on, at the front of a text, or the fault and its place
abbrev pub minute_front : Behavior → List ℕ → Result Clock Refused
minute_front behavior rest = first_refused_or (minute_digits rest) (clock_answer behavior rest)

-- the clock, from its hour on, at the front of a text, or the fault and its place
abbrev pub clock_front : Behavior → List ℕ → Result Clock Refused
clock_front behavior text =
    let rest = drop 3 text in
    first_refused_or (hour_table text)
    (first_refused_or (moved 3 (minute_digits rest))
    (first_refused_or (hour_range text)
    (result_map (at_hour (two_digit_value text 0)) (from_byte 3 (clock_answer behavior rest)))))

-- a minute and a second in print
abbrev pub minute_text : ℕ → ℕ → List ℕ
minute_text minute second = two_digit_text minute ++ colon ∷ two_digit_text second

-- a microsecond in print: nothing for 0, otherwise a point and six digits
abbrev pub fraction_text : ℕ → List ℕ
fraction_text microsecond = if microsecond == 0 then [] else full_stop ∷ six_digit_text microsecond

-- a number below 1,000 in three digits
abbrev pub three_digit_text : ℕ → List ℕ
three_digit_text n = two_digit_text (n / 10) ++ digit (n % 10) ∷ []

-- a microsecond in print with a number of digits, rounded down: nothing for none, otherwise a point
-- and these digits
abbrev pub fraction_text_with : FractionDigits → ℕ → List ℕ
fraction_text_with FractionDigits.Zero microsecond = []
fraction_text_with FractionDigits.Three microsecond =
    full_stop ∷ three_digit_text (microsecond / 1000)
fraction_text_with FractionDigits.Six microsecond = full_stop ∷ six_digit_text microsecond

-- a microsecond rounded down to a number of digits
abbrev pub cut_microsecond : FractionDigits → ℕ → ℕ
cut_microsecond FractionDigits.Zero microsecond = 0
cut_microsecond FractionDigits.Three microsecond = microsecond / 1000 * 1000
cut_microsecond FractionDigits.Six microsecond = microsecond

-- the numbers of a clock that was read
abbrev pub clock_parts : PureTime → Clock
clock_parts time = record {
  hour = time.hour;
  minute = time.minute;
  second = time.second;
  microsecond = time.microsecond;
  size = time.size;
}

-- The offset after a time (RFC 3339 5.6, time-offset; the ranges are those of its 5.7). `rest` is
-- what follows the time, and `numbers` what follows the sign. Departs from it: the offset may be
-- left out, and so may its `:`; the sign may be U+2212, as in ISO 8601; `-00:00` is the offset 0,
-- which for RFC 3339 4.3 is an unknown one.

-- a byte is `+` or `-`
abbrev pub is_plus_or_minus : ℕ → Bool
is_plus_or_minus byte = (byte == plus_sign) || (byte == hyphen)

-- a byte is UTC itself, `Z` or `z`
abbrev pub is_utc : ℕ → Bool
is_utc byte = (byte == capital_z) || (byte == small_z)

-- the three bytes of U+2212, the minus sign
abbrev pub has_minus_sign : List ℕ → Bool
has_minus_sign rest =
    (slice_index rest 0 == 0xe2) && (slice_index rest 1 == 0x88) && (slice_index rest 2 == 0x92)

-- the place of the minute of an offset, after the hour and an optional `:`
abbrev pub offset_minute_place : List ℕ → ℕ
offset_minute_place numbers = if slice_index numbers 2 == colon then 3 else 2

-- how many bytes the hour and the minute of an offset take
abbrev pub offset_digits_size : List ℕ → ℕ
offset_digits_size numbers = offset_minute_place numbers + 2

-- the minute of an offset
abbrev pub offset_minute : List ℕ → ℕ
offset_minute numbers = two_digit_value numbers (offset_minute_place numbers)

-- the size of an offset in seconds
abbrev pub offset_size : List ℕ → ℕ
offset_size numbers = 3600 * two_digit_value numbers 0 + 60 * offset_minute numbers

-- what the digits of an offset after its sign have to be
abbrev pub offset_digits : List ℕ → List TextRow
offset_digits numbers =
    (two_digits_at numbers 0 else_fault ParseError.InvalidCharTzHour at_byte 0)
    ∷ (two_digits_at numbers (offset_minute_place numbers)
    else_fault ParseError.InvalidCharTzMinute at_byte offset_minute_place numbers)
    ∷ []

-- what the numbers of an offset have to meet: their ranges
abbrev pub offset_ranges : List ℕ → List TextRow
offset_ranges numbers =
    (nat_le (offset_minute numbers) 59
    else_fault ParseError.OutOfRangeTzMinute at_byte offset_minute_place numbers)
    ∷ (nat_lt (offset_size numbers) seconds_per_day else_fault ParseError.OutOfRangeTz at_byte 0)
    ∷ []

-- the offset after a sign, which is given by its bytes, and how many bytes both take, or the fault
-- and its place after the sign
abbrev pub signed_front : Bool → ℕ → List ℕ → Result (Option ℤ × ℕ) Refused
signed_front west sign numbers =
    first_refused_or (offset_digits numbers)
    (first_refused_or (offset_ranges numbers)
    (Ok (Some (with_sign west (offset_size numbers)), sign + offset_digits_size numbers)))

-- the offset that follows a time, if any, and how many bytes it takes, or the fault of what follows
-- it and its place
abbrev pub offset_front : List ℕ → Result (Option ℤ × ℕ) Refused
offset_front rest =
    if is_plus_or_minus (slice_index rest 0)
    then from_byte 1 (signed_front (slice_index rest 0 == hyphen) 1 (drop 1 rest))
    else (if is_utc (slice_index rest 0) then Ok (Some (pos 0), 1)
    else (if has_minus_sign rest
    then from_byte 3 (signed_front true 3 (drop 3 rest))
    else Ok (None, 0)))

-- an offset begins a text: a sign, `Z` or `z`
abbrev pub begins_offset : List ℕ → Bool
begins_offset rest =
    is_plus_or_minus (slice_index rest 0) || is_utc (slice_index rest 0) || has_minus_sign rest

-- the fault of a text that goes on after a time with an offset, or after one without
abbrev pub end_fault : Option ℤ → ParseError
end_fault offset =
    if is_some offset then ParseError.ExtraCharacters else ParseError.InvalidCharTzSign

-- hours and minutes in print
abbrev pub offset_size_text : ℕ → List ℕ
offset_size_text size = two_digit_text (size / 3600) ++ colon ∷ two_digit_text (size / 60 % 60)

-- the one text by which an offset is printed: nothing, `Z`, or a sign, hours and minutes
abbrev pub offset_text : Option ℤ → List ℕ
offset_text None = []
offset_text (Some offset) = let size = unsigned_abs offset in
    if size == 0 then capital_z ∷ []
    else (if is_negative offset then hyphen else plus_sign) ∷ offset_size_text size

-- The text of a time of day, `HH:MM:SS` with a fraction and an offset (RFC 3339 5.6, full-time).
-- Departs from it: as a clock and an offset do.

-- the time of a clock and an offset
abbrev pub clock_with_offset : Clock → Option ℤ → TimeOfDay
clock_with_offset clock offset = record {
  hour = clock.hour;
  minute = clock.minute;
  second = clock.second;
  microsecond = clock.microsecond;
  offset = offset;
}

-- the time of a clock at the front of a text and the offset that follows it, and how many bytes it
-- takes, or the offset's fault and its place
abbrev pub time_after_clock : List ℕ → Clock → Result (TimeOfDay × ℕ) Refused
time_after_clock text clock = do
  offset ← from_byte clock.size (offset_front (drop clock.size text))
  Ok (clock_with_offset clock offset.0, clock.size + offset.1)

-- the time at the front of a text, a clock and the offset that follows it, and how many bytes it
-- takes, or the text's fault and its place
abbrev pub time_front : Behavior → List ℕ → Result (TimeOfDay × ℕ) Refused
time_front behavior text = clock_front behavior text >>= time_after_clock text

-- the time that a text is, or the text's fault and its place
abbrev pub time_answer : Behavior → List ℕ → Result TimeOfDay Refused
time_answer behavior text = do
  time ← time_front behavior text
  alone_or (λ read. end_fault read.offset) text time

-- an hour, a minute and a second in print
abbrev pub clock_text : TimeOfDay → List ℕ
clock_text time = two_digit_text time.hour ++ colon ∷ minute_text time.minute time.second

-- the one text by which a time is printed
abbrev pub time_text : TimeOfDay → List ℕ
time_text time = clock_text time ++ fraction_text time.microsecond ++ offset_text time.offset

-- the text by which a time is printed with a number of digits
abbrev pub time_text_with : FractionDigits → TimeOfDay → List ℕ
time_text_with digits time =
    clock_text time ++ fraction_text_with digits time.microsecond ++ offset_text time.offset

-- the time that this text says: its microsecond is rounded down to these digits
abbrev pub cut_time : FractionDigits → TimeOfDay → TimeOfDay
cut_time digits time = record time { microsecond = cut_microsecond digits time.microsecond }

-- a text goes on with a fraction after a microsecond in print: with a decimal mark after none, with
-- a digit after six
abbrev pub continues_fraction : ℕ → List ℕ → Bool
continues_fraction microsecond rest =
    if microsecond == 0 then is_decimal_mark (slice_index rest 0)
    else is_ascii_digit (slice_index rest 0)

-- a text that follows a time in print is no part of it: an offset ends it, otherwise neither a
-- fraction nor an offset begins
abbrev pub is_after_time : TimeOfDay → List ℕ → Bool
is_after_time time rest =
    is_some time.offset || (not (continues_fraction time.microsecond rest)
    && not (begins_offset rest))

-- Times at other offsets: the same clock with another offset, or the same instant as another clock
-- shows it.

-- a time with another offset, or with none: what the clock shows stays
abbrev pub time_with_offset : Option ℤ → TimeOfDay → Result TimeOfDay ParseError
time_with_offset offset time =
    first_fault_or (offset_table offset) (Ok (record time { offset = offset }))

-- the time at the same instant, as a clock at another offset shows it: it has no date that could
-- change
abbrev pub time_in_timezone : ℤ → TimeOfDay → Result TimeOfDay ParseError
time_in_timezone offset time =
    let second = utc_second_of_day time +ℤ offset in
    let is_second_of_day = int_le (pos 0) second && int_lt second (pos seconds_per_day) in
    first_fault_or (move_table offset time.offset
    ++ (is_second_of_day else_fault ParseError.TimeTooLarge) ∷ [])
    (Ok (time_at (unsigned_abs second) time.microsecond (Some offset)))

-- The order of times by instant: in UTC if both have an offset, and otherwise as clocks show them.
-- A time is taken to be one of 1970-01-01.

-- the instant of a time, in UTC or as a clock shows it
abbrev pub time_instant : Bool → TimeOfDay → Instant
time_instant is_utc time = record {
  second = if is_utc then utc_second_of_day time else pos (second_of_day time);
  microsecond = time.microsecond;
}

-- the order of times by instant
abbrev pub time_instant_order : TimeOfDay → TimeOfDay → Ordering
time_instant_order = by_instant (λ time. time.offset) time_instant

-- the time at the beginning of a minute
abbrev pub minute_time : ℕ → ℕ → Option ℤ → TimeOfDay
minute_time hour minute offset =
    record { hour = hour; minute = minute; second = 0; microsecond = 0; offset = offset }
