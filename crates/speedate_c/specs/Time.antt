-- What a time from outside says, and how a time is written.
use Rattle.std.specs.Prelude.{ℕ, ℤ, pos, negsuc, List, Option, option_map, Some, None, Result, if◌then◌else◌, ◌==◌}
use Rattle.std.specs.Ordering.{int_eq}
use Rattle.speedate.specs.Base.{CallKind, ParseError}
use Rattle.speedate.specs.Config.{Choices}
use Rattle.speedate.specs.Form.{time_by_form}
use Rattle.speedate.specs.declared.TimeForm.{TimeForm}
use Rattle.speedate.specs.Time.{new_time_answer, TimeOfDay}
use Rattle.speedate.specs.declared.FractionDigits.{FractionDigits}
use Rattle.speedate.specs.Requirement.{result_and_then, result_map}
use Rattle.speedate_c.specs.Code.{front_form, strict_form, text_form}
use Rattle.speedate_c.specs.Config.{offset_answer}
use Rattle.speedate_c.specs.Written.{Reading, reading}
use Rattle.speedate_c.specs.declared.time.SpeedateTime.{SpeedateTime}

-- the time of its numbers, or the fault of the first that is out of range; the offset is looked at
-- last
abbrev pub time_of : SpeedateTime → Result TimeOfDay ParseError
time_of time =
    result_and_then (λ clock. result_map (λ offset. record clock { offset = offset })
    (offset_answer time.has_offset time.offset))
    (new_time_answer time.hour time.minute time.second time.microsecond None)

-- the offset of a time from outside, if its flag says that there is one
abbrev pub attached_offset : SpeedateTime → Option ℤ
attached_offset time = if time.has_offset == 0 then None else Some time.offset

-- the flag of an offset and its seconds
abbrev pub shown_offset : Option ℤ → ℕ × ℤ
shown_offset (Some seconds) = (1, seconds)
shown_offset None = (0, pos 0)

-- a time as it is written
abbrev pub shown_time : TimeOfDay → SpeedateTime
shown_time time = record {
  hour = time.hour;
  minute = time.minute;
  second = time.second;
  has_offset = (shown_offset time.offset).0;
  microsecond = time.microsecond;
  offset = (shown_offset time.offset).1;
}

-- the number of digits for six after the second, or none where the microsecond is 0
abbrev pub digits_auto : ℤ
digits_auto = negsuc 0

-- the digits of a fraction that a number asks for
abbrev pub fraction_digits_of : ℤ → Option FractionDigits
fraction_digits_of number =
    if int_eq number (pos 0)
    then Some FractionDigits.Zero
    else (if int_eq number (pos 3)
    then Some FractionDigits.Three
    else (if int_eq number (pos 6) then Some FractionDigits.Six else None))

-- the form that a number asks for, where times have it, and the kind of calls that read so
abbrev pub time_form : ℤ → Option (TimeForm × CallKind)
time_form form =
    if int_eq form text_form then Some (TimeForm.Text, CallKind.Time)
    else (if int_eq form strict_form then Some (TimeForm.Strict, CallKind.TimeStrict)
    else (if int_eq form front_form then Some (TimeForm.Front, CallKind.Time)
    else None))

-- how it reads a text
abbrev pub time_reading : ℤ → Choices → List ℕ → Option (Reading TimeOfDay)
time_reading form chosen text =
    option_map (λ read. reading read.1 (time_by_form read.0 chosen text)) (time_form form)
