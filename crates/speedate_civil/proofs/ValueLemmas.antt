-- What every `Date`, `Time` and `DateTime` is, and from where to where the seconds of a date-time
-- go.
use Rattle.std.proofs.Common.{rules, ◌<◌, arith, Option, ℤ, pos, ◌+ℤ◌, ◌-ℤ◌, ◌≤ℤ◌, unsigned_abs, unwrap_or}
use Rattle.std.specs.Option.{ForSome}
use Rattle.std.proofs.lemmas.Int.{ints}
use Rattle.speedate_base.specs.Offset.{IsOffset}
use Rattle.speedate_base.specs.Timestamp.{seconds_per_day, first_second, last_second}
use Rattle.speedate_civil.specs.Calendar.{IsDate, IsDay}
use Rattle.speedate_civil.specs.Date.{ymd, Date}
use Rattle.speedate_civil.specs.Time.{IsTime, time_of_day, Time}
use Rattle.speedate_civil.specs.DateTime.{DateAndTime, IsDateAndTime, local_second, utc_second}
use Rattle.speedate_civil.specs.DateTime.{date_and_time, DateTime}
use Rattle.speedate_civil.proofs.DayNumberLemmas.{day_number-small}

pub is_day : (date : Date) → IsDay (ymd date)
is_day date = record { month = date.month_in_range; day = date.day_in_range }

pub is_date : (date : Date) → IsDate (ymd date)
is_date date = record { year = date.year_in_range; day = is_day date }

pub is_time : (time : Time) → IsTime (time_of_day time)
is_time time = omega arith

pub is_date_and_time : (value : DateTime) → IsDateAndTime (date_and_time value)
is_date_and_time value = record { date = is_date value.date; time = is_time value.time }

-- an offset, or 0 for none
pub offset-small : (offset : Option ℤ) → ForSome offset IsOffset
    → unsigned_abs (unwrap_or offset (pos 0)) < seconds_per_day
offset-small offset valid = search rules

-- a clock shows the years 0000 to 9999
pub local_second-late : (value : DateAndTime) → IsDateAndTime value
    → first_second ≤ℤ local_second value
local_second-late value valid = omega (arith, ints)

pub local_second-early : (value : DateAndTime) → IsDateAndTime value
    → local_second value ≤ℤ last_second
local_second-early value valid = grind (arith, day_number-small)

-- and one in UTC is less than a day away
pub utc_second-late : (value : DateAndTime) → IsDateAndTime value
    → (first_second -ℤ pos 86399) ≤ℤ utc_second value
utc_second-late value valid =
    omega (
      arith,
      ints,
      local_second-late value valid,
      offset-small value.time.offset valid.time.offset,
    )

pub utc_second-early : (value : DateAndTime) → IsDateAndTime value
    → utc_second value ≤ℤ (last_second +ℤ pos 86399)
utc_second-early value valid =
    omega (
      arith,
      ints,
      local_second-early value valid,
      offset-small value.time.offset valid.time.offset,
    )
