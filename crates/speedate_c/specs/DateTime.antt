-- What a date-time from outside says, and how a date-time is written.
use Rattle.std.specs.Prelude.{◌≡◌, nat_le, true, ℤ, List, ℕ, Option, option_map, Some, None, Result, if◌then◌else◌}
use Rattle.std.specs.Int.{is_in_range}
use Rattle.std.specs.Option.{option_map_or}
use Rattle.std.specs.Ordering.{int_eq}
use Rattle.speedate.specs.Base.{CallKind, ParseError}
use Rattle.speedate.specs.Calendar.{month_length}
use Rattle.speedate.specs.Config.{Choices}
use Rattle.speedate.specs.DateTime.{DateAndTime}
use Rattle.speedate.specs.Form.{date_time_by_form}
use Rattle.speedate.specs.declared.DateTimeForm.{DateTimeForm}
use Rattle.speedate.specs.Offset.{is_offset}
use Rattle.speedate.specs.Requirement.{result_and_then, result_map}
use Rattle.speedate_c.specs.Code.{front_form, loose_form, loose_front_form, or_timestamp_form}
use Rattle.speedate_c.specs.Code.{strict_form, text_form}
use Rattle.speedate_c.specs.Date.{date_of, shown_date}
use Rattle.speedate_c.specs.Time.{attached_offset, time_of, shown_time}
use Rattle.speedate_c.specs.Written.{Reading, reading}
use Rattle.speedate_c.specs.declared.datetime.SpeedateDateTime.{SpeedateDateTime}

-- the date-time of its date and its time, or the fault of one that is out of range: the date is
-- looked at first
abbrev pub date_time_of : SpeedateDateTime → Result DateAndTime ParseError
date_time_of value =
    result_and_then (λ date. result_map (λ time. record { date = date; time = time })
    (time_of value.time)) (date_of value.date)

-- each number of a date-time from outside is in its range
pub record IsInRanges (value : SpeedateDateTime) : Type 0 where
  pub year : nat_le value.date.year 9999 ≡ true
  pub month : is_in_range 1 12 value.date.month ≡ true
  pub day : is_in_range 1 (month_length value.date.year value.date.month) value.date.day ≡ true
  pub hour : nat_le value.time.hour 23 ≡ true
  pub minute : nat_le value.time.minute 59 ≡ true
  pub second : nat_le value.time.second 59 ≡ true
  pub microsecond : nat_le value.time.microsecond 999999 ≡ true
  pub flag : nat_le value.time.has_offset 1 ≡ true
  pub offset : option_map_or is_offset (attached_offset value.time) true ≡ true

-- a date-time as it is written
abbrev pub shown_date_time : DateAndTime → SpeedateDateTime
shown_date_time value = record { date = shown_date value.date; time = shown_time value.time }

-- the form that a number asks for, where date-times have it, and the kind of calls that read so
abbrev pub date_time_form : ℤ → Option (DateTimeForm × CallKind)
date_time_form form =
    if int_eq form text_form then Some (DateTimeForm.Text, CallKind.DateTime)
    else (if int_eq form or_timestamp_form
    then Some (DateTimeForm.OrTimestamp, CallKind.DateTimeOrTimestamp)
    else (if int_eq form strict_form then Some (DateTimeForm.Strict, CallKind.DateTimeStrict)
    else (if int_eq form front_form then Some (DateTimeForm.Front, CallKind.DateTime)
    else (if int_eq form loose_form then Some (DateTimeForm.Loose, CallKind.DateTime)
    else (if int_eq form loose_front_form then Some (DateTimeForm.LooseFront, CallKind.DateTime)
    else None)))))

-- how it reads a text
abbrev pub date_time_reading : ℤ → Choices → List ℕ → Option (Reading DateAndTime)
date_time_reading form chosen text =
    option_map (λ read. reading read.1 (date_time_by_form read.0 chosen text)) (date_time_form form)
