-- What a date from outside says, and how a date is written.
use Rattle.std.specs.Prelude.{ℤ, List, ℕ, Option, option_map, Some, None, Result, if◌then◌else◌}
use Rattle.std.specs.Ordering.{int_eq}
use Rattle.speedate.specs.Base.{CallKind, ParseError}
use Rattle.speedate.specs.Calendar.{Ymd}
use Rattle.speedate.specs.Config.{Choices}
use Rattle.speedate.specs.Date.{new_date_answer}
use Rattle.speedate.specs.Form.{date_by_form}
use Rattle.speedate.specs.declared.DateForm.{DateForm}
use Rattle.speedate_c.specs.Code.{front_form, or_timestamp_form, strict_form, text_form}
use Rattle.speedate_c.specs.Written.{Reading, reading}
use Rattle.speedate_c.specs.declared.date.SpeedateDate.{SpeedateDate}

-- the date of its numbers, or the fault of the first that is out of range
abbrev pub date_of : SpeedateDate → Result Ymd ParseError
date_of date = new_date_answer date.year date.month date.day

-- a date as it is written
abbrev pub shown_date : Ymd → SpeedateDate
shown_date date = record { year = date.year; month = date.month; day = date.day }

-- the day from which columns count
abbrev pub first_day : Ymd
first_day = record { year = 1970; month = 1; day = 1 }

-- the form that a number asks for, where dates have it, and the kind of calls that read so: a date
-- in a text is a date of RFC 3339, so the strict form is the same
abbrev pub date_form : ℤ → Option (DateForm × CallKind)
date_form form =
    if int_eq form text_form then Some (DateForm.Text, CallKind.Date)
    else (if int_eq form or_timestamp_form
    then Some (DateForm.OrTimestamp, CallKind.DateOrTimestamp)
    else (if int_eq form strict_form then Some (DateForm.Text, CallKind.Date)
    else (if int_eq form front_form then Some (DateForm.Front, CallKind.Date)
    else None)))

-- how it reads a text
abbrev pub date_reading : ℤ → Choices → List ℕ → Option (Reading Ymd)
date_reading form chosen text =
    option_map (λ read. reading read.1 (date_by_form read.0 chosen.unit text)) (date_form form)
