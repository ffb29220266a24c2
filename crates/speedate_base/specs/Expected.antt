-- What was expected where a text, or a value, is refused: a short phrase for people, which depends
-- on the error and on the kind of call.
use Rattle.std.specs.Prelude.{ℕ, List, Bool, true, false, codes, if◌then◌else◌}
use Rattle.speedate_base.specs.Requirement.{ParseError}
pub use Rattle.speedate_base.specs.declared.faults.expected.CallKind.{CallKind}

-- the call parses the texts of RFC 3339 alone
abbrev pub is_strict : CallKind → Bool
is_strict CallKind.TimeStrict = true
is_strict CallKind.DateTimeStrict = true
is_strict other = false

-- the call parses durations
abbrev pub is_duration : CallKind → Bool
is_duration CallKind.Duration = true
is_duration other = false

-- the call parses texts
abbrev pub is_of_texts : CallKind → Bool
is_of_texts CallKind.Values = false
is_of_texts other = true

-- the shape of the texts that a call parses
abbrev pub expected_shape : CallKind → List ℕ
expected_shape CallKind.Values = codes "a longer text"
expected_shape CallKind.Date = codes "a date: YYYY-MM-DD"
expected_shape CallKind.DateOrTimestamp = codes "a date, YYYY-MM-DD, or a whole number"
expected_shape CallKind.Time = codes "a time: HH:MM or HH:MM:SS"
expected_shape CallKind.TimeStrict = codes "a time with an offset: HH:MM:SSZ or HH:MM:SS+01:00"
expected_shape CallKind.DateTime = codes "a date-time: YYYY-MM-DDTHH:MM or YYYY-MM-DDTHH:MM:SS"
expected_shape CallKind.DateTimeOrTimestamp =
    codes "a date-time, as YYYY-MM-DDTHH:MM:SS, or a number"
expected_shape CallKind.DateTimeStrict = codes "a date-time with an offset, as YYYY-MM-DDTHH:MM:SSZ"
expected_shape CallKind.Duration =
    codes "more of a duration, as in P1DT2H, 01:30:00 or 2 days, 10:20"

-- what was expected where a fault lies
abbrev pub expected_text : ParseError → CallKind → List ℕ
expected_text ParseError.TooShort kind = expected_shape kind
expected_text ParseError.ExtraCharacters kind = codes "nothing more"
expected_text ParseError.InvalidCharDateTimeSep kind =
    if is_strict kind
    then codes "T or t, then a time"
    else codes "T, t, _ or a space, then a time"
expected_text ParseError.InvalidCharDateSep kind = codes "a hyphen, as in YYYY-MM-DD"
expected_text ParseError.DateNotExact kind =
    if is_of_texts kind
    then codes "a date, or a timestamp at midnight"
    else codes "a timestamp at midnight, or a duration of whole days"
expected_text ParseError.InvalidCharYear kind = codes "four digits of the year"
expected_text ParseError.InvalidCharMonth kind = codes "two digits of the month"
expected_text ParseError.InvalidCharDay kind = codes "two digits of the day"
expected_text ParseError.InvalidCharTimeSep kind =
    if is_strict kind
    then codes "a colon, as in HH:MM:SS"
    else codes "a colon, as in HH:MM"
expected_text ParseError.InvalidCharHour kind =
    if is_duration kind
    then codes "digits of the hours, then a colon"
    else codes "two digits of the hour"
expected_text ParseError.InvalidCharMinute kind = codes "two digits of the minute"
expected_text ParseError.InvalidCharSecond kind = codes "two digits of the second"
expected_text ParseError.InvalidCharSecondFraction kind = codes "digits of the second's fraction"
expected_text ParseError.InvalidCharTzSign kind =
    if is_strict kind
    then codes "after the clock an offset in ASCII, Z or -01:00; no comma"
    else codes "after the clock at most an offset: Z or +01:00"
expected_text ParseError.InvalidCharTzHour kind = codes "two digits of the offset's hour"
expected_text ParseError.InvalidCharTzMinute kind =
    if is_strict kind
    then codes "the offset's minute after a colon, as in +01:00"
    else codes "two digits of the offset's minute"
expected_text ParseError.OutOfRangeTzMinute kind = codes "the offset's minute, 00 to 59"
expected_text ParseError.OutOfRangeTz kind = codes "an offset of less than 24 hours"
expected_text ParseError.TzRequired kind =
    if is_of_texts kind
    then codes "an offset: Z or +01:00"
    else codes "a value that has an offset"
expected_text ParseError.SystemTimeError kind = codes "a clock that shows 1970 or later"
expected_text ParseError.OutOfRangeMonth kind = codes "month, 01 to 12"
expected_text ParseError.OutOfRangeDay kind = codes "a day that the month has"
expected_text ParseError.OutOfRangeHour kind = codes "hour, 00 to 23"
expected_text ParseError.OutOfRangeMinute kind = codes "minute, 00 to 59"
expected_text ParseError.OutOfRangeSecond kind = codes "second, 00 to 59"
expected_text ParseError.SecondFractionTooLong kind =
    if is_duration kind
    then codes "after the hours at most MM:SS.ffffff, as in 01:30:00.123456"
    else codes "at most six digits of a second's fraction"
expected_text ParseError.SecondFractionMissing kind = codes "a digit of the second's fraction"
expected_text ParseError.MillisecondFractionTooLong kind =
    codes "at most three digits of a millisecond's fraction"
expected_text ParseError.DurationInvalidNumber kind = codes "digits of a number, as in P1D or 1 day"
expected_text ParseError.DurationTRepeated kind = codes "no second T"
expected_text ParseError.DurationInvalidFraction kind =
    codes "no further component after a fraction"
expected_text ParseError.DurationInvalidTimeUnit kind = codes "H, M or S"
expected_text ParseError.DurationInvalidDateUnit kind = codes "Y, M, W or D; H, M or S after a T"
expected_text ParseError.DurationInvalidDays kind =
    codes "d, day or days; a clock alone is 01:30 or longer"
expected_text ParseError.DurationValueTooLarge kind =
    if is_of_texts kind
    then codes "numbers and sums of at most 4,294,967,295"
    else codes "the numbers of a duration within their ranges"
expected_text ParseError.DurationHourValueTooLarge kind =
    codes "hours: up to 23 after days, or 10 digits up to 2,400,000,000"
expected_text ParseError.DurationDaysTooLarge kind = codes "at most 999,999,999 days"
expected_text ParseError.DateTooSmall kind = codes "a date in the years 0000 to 9999"
expected_text ParseError.DateTooLarge kind = codes "a date in the years 0000 to 9999"
expected_text ParseError.TimeTooLarge kind =
    codes "a time within the day: 00:00:00 to 23:59:59.999999"
expected_text ParseError.DurationUnitOrder kind =
    codes "each unit once, in the order Y, M, W, D, T, H, M, S"
expected_text ParseError.MicrosecondFractionTooLong kind =
    codes "no digit of a microsecond's fraction"
