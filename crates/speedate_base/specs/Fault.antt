-- The faults: one table of their names and of what they say.
use Prim.Native.String.{String}
use Rattle.std.specs.Prelude.{ℕ, ◌+◌, List, [], ◌∷◌, codes, get_or}
use denote.Enum.Declared.{tag_of}
use Rattle.speedate_base.specs.contracts.faults.ParseError.{the_type}
use Rattle.speedate_base.specs.Requirement.{ParseError}
use Rattle.speedate_base.specs.Config.{ConfigError}

-- a fault, its snake-case name, and what it says in a sentence
pub record FaultRow : Type 0 where
  pub fault : ParseError
  pub name : List ℕ
  pub documentation : List ℕ

-- a row of the table of faults
abbrev pub row : ParseError → String → String → FaultRow
row fault name documentation =
    record { fault = fault; name = codes name; documentation = codes documentation }

-- the faults, in the order in which the enum has them
abbrev pub fault_rows : List FaultRow
fault_rows =
    row ParseError.TooShort "too_short" "input is too short"
    ∷ row ParseError.ExtraCharacters "extra_characters" "unexpected extra characters at the end of the input"
    ∷ row ParseError.InvalidCharDateTimeSep "invalid_char_date_time_sep" "invalid datetime separator, expected `T`, `t`, `_` or space"
    ∷ row ParseError.InvalidCharDateSep "invalid_char_date_sep" "invalid date separator, expected `-`"
    ∷ row ParseError.DateNotExact "date_not_exact" "Timestamp is not an exact date"
    ∷ row ParseError.InvalidCharYear "invalid_char_year" "invalid character in year"
    ∷ row ParseError.InvalidCharMonth "invalid_char_month" "invalid character in month"
    ∷ row ParseError.InvalidCharDay "invalid_char_day" "invalid character in day"
    ∷ row ParseError.InvalidCharTimeSep "invalid_char_time_sep" "invalid time separator, expected `:`"
    ∷ row ParseError.InvalidCharHour "invalid_char_hour" "invalid character in hour"
    ∷ row ParseError.InvalidCharMinute "invalid_char_minute" "invalid character in minute"
    ∷ row ParseError.InvalidCharSecond "invalid_char_second" "invalid character in second"
    ∷ row ParseError.InvalidCharSecondFraction "invalid_char_second_fraction" "invalid character in second fraction"
    ∷ row ParseError.InvalidCharTzSign "invalid_char_tz_sign" "invalid timezone sign"
    ∷ row ParseError.InvalidCharTzHour "invalid_char_tz_hour" "invalid timezone hour"
    ∷ row ParseError.InvalidCharTzMinute "invalid_char_tz_minute" "invalid timezone minute"
    ∷ row ParseError.OutOfRangeTzMinute "out_of_range_tz_minute" "timezone minute value is outside expected range of 0-59"
    ∷ row ParseError.OutOfRangeTz "out_of_range_tz" "timezone offset must be less than 24 hours"
    ∷ row ParseError.TzRequired "tz_required" "timezone is required to adjust to a new timezone"
    ∷ row ParseError.SystemTimeError "system_time_error" "Error getting system time"
    ∷ row ParseError.OutOfRangeMonth "out_of_range_month" "month value is outside expected range of 1-12"
    ∷ row ParseError.OutOfRangeDay "out_of_range_day" "day value is outside expected range"
    ∷ row ParseError.OutOfRangeHour "out_of_range_hour" "hour value is outside expected range of 0-23"
    ∷ row ParseError.OutOfRangeMinute "out_of_range_minute" "minute value is outside expected range of 0-59"
    ∷ row ParseError.OutOfRangeSecond "out_of_range_second" "second value is outside expected range of 0-59"
    ∷ row ParseError.SecondFractionTooLong "second_fraction_too_long" "second fraction value is more than 6 digits long"
    ∷ row ParseError.SecondFractionMissing "second_fraction_missing" "second fraction digits missing after `.`"
    ∷ row ParseError.MillisecondFractionTooLong "millisecond_fraction_too_long" "millisecond fraction value is more than 3 digits long"
    ∷ row ParseError.DurationInvalidNumber "duration_invalid_number" "invalid digit in duration"
    ∷ row ParseError.DurationTRepeated "duration_t_repeated" "`t` character repeated in duration"
    ∷ row ParseError.DurationInvalidFraction "duration_invalid_fraction" "quantity fraction invalid in duration"
    ∷ row ParseError.DurationInvalidTimeUnit "duration_invalid_time_unit" "quantity invalid in time part of duration"
    ∷ row ParseError.DurationInvalidDateUnit "duration_invalid_date_unit" "quantity invalid in date part of duration"
    ∷ row ParseError.DurationInvalidDays "duration_invalid_days" "\"day\" identifier in duration not correctly formatted"
    ∷ row ParseError.DurationValueTooLarge "duration_value_too_large" "a numeric value in the duration is too large"
    ∷ row ParseError.DurationHourValueTooLarge "duration_hour_value_too_large" "durations may not exceed 999,999,999 hours"
    ∷ row ParseError.DurationDaysTooLarge "duration_days_too_large" "durations may not exceed 999,999,999 days"
    ∷ row ParseError.DateTooSmall "date_too_small" "dates before 0000 are not supported as unix timestamps"
    ∷ row ParseError.DateTooLarge "date_too_large" "dates after 9999 are not supported as unix timestamps"
    ∷ row ParseError.TimeTooLarge "time_too_large" "numeric times may not exceed 86,399 seconds"
    ∷ row ParseError.DurationUnitOrder "duration_unit_order" "quantities out of order or repeated in duration"
    ∷ row ParseError.MicrosecondFractionTooLong "microsecond_fraction_too_long" "microsecond timestamps may not have fraction digits"
    ∷ []

-- the place of a fault in the enum, from 0
abbrev pub fault_place : ParseError → ℕ
fault_place fault = tag_of the_type fault

-- the number of a fault: its place counted from 1
abbrev pub fault_number : ParseError → ℕ
fault_number fault = fault_place fault + 1

-- the row of a fault in the table of faults
abbrev pub fault_row : ParseError → FaultRow
fault_row fault = get_or fault_rows (fault_place fault) (row fault "" "")

-- the snake-case name of a fault
abbrev pub fault_name : ParseError → List ℕ
fault_name fault = (fault_row fault).name

-- what a fault says in a sentence
abbrev pub fault_documentation : ParseError → List ℕ
fault_documentation fault = (fault_row fault).documentation

-- the snake-case name of a fault of a choice
abbrev pub config_error_name : ConfigError → List ℕ
config_error_name ConfigError.UnknownMicrosecondsPrecisionOverflowBehaviorString =
    codes "unknown_microseconds_precision_overflow_behavior_string"
config_error_name ConfigError.UnknownTimestampUnitString = codes "unknown_timestamp_unit_string"
