-- The seconds of a date-time without an offset, as a timestamp, and its microsecond lead back to
-- it.
use Rattle.std.proofs.Common.{◌≡◌, ℕ, ◌<◌, ◌≤◌, ℤ, unsigned_abs, true, List, Ok, Err, rules, arith}
use Rattle.std.proofs.lemmas.Bool.Decides.{nat_tests}
use Rattle.std.proofs.lemmas.Int.{ints}
use Rattle.speedate_base.specs.Numbers.{DecimalParts}
use Rattle.speedate_base.specs.Requirement.{all_at_byte, first_refusal_or}
use Rattle.speedate_base.specs.Timestamp.{Instant, UnitRow, decimal_instant, digits_row}
use Rattle.speedate_base.specs.Timestamp.{later_answer, range_answer, range_table}
use Rattle.speedate_civil.specs.DateTime.{DateAndTime, IsDateAndTime, local_second, date_time_at}
use Rattle.speedate_civil.specs.DateTime.{date_time_timestamp_answer, decimal_instant_answer}
use Rattle.speedate_civil.specs.DateTime.{instant_date_time}
use Rattle.speedate_base.proofs.TimestampLemmas.{instant_of_seconds}
use Rattle.speedate_civil.specs.Base.{Behavior, ParseError, TimestampUnit}
use Rattle.speedate_civil.proofs.DateOrderLemmas.{date_of_number-day_number}
use Rattle.speedate_civil.proofs.DateTimestampLemmas.{day-of, second-of}
use Rattle.speedate_base.proofs.RefusalLemmas.{refusal-all}
use Rattle.speedate_civil.proofs.DayNumberLemmas.{day_number-small}
use Rattle.speedate_base.proofs.RefusalLemmas.{seen-table}
use Rattle.speedate_base.specs.Refused.{seen_as}

-- less than a second more than an instant of whole seconds
later-microsecond : (second : ℤ) (microsecond : ℕ) → unsigned_abs second < 300000000000
    → microsecond ≤ 999999
    → later_answer microsecond (record { second = second; microsecond = 0 })
    ≡ Ok (record { second = second; microsecond = microsecond })
later-microsecond second microsecond small part = search rules

-- the date-time at the instant of a day number, a second of that day and a microsecond
date_time-at : (value : DateAndTime) → IsDateAndTime value
    → date_time_at value.time.offset
    (record { second = local_second value; microsecond = value.time.microsecond }) ≡ value
date_time-at value valid = grind (arith, ints, date_of_number-day_number, day-of, second-of)

-- the instant at which a date-time lies, as a clock shows it, leads back to it
pub instant_date_time-local : (value : DateAndTime) → IsDateAndTime value
    → instant_date_time value.time.offset
    (record { second = local_second value; microsecond = value.time.microsecond }) ≡ Ok value
instant_date_time-local value valid =
    grind (arith, ints, nat_tests, refusal-all, day_number-small, date_time-at)

-- its second and its microsecond, as a timestamp, lead back to it, where the offset is attached
-- that it has
pub date_time_timestamp-leads_back : (value : DateAndTime) → IsDateAndTime value
    → date_time_timestamp_answer TimestampUnit.Second value.time.offset value.time.microsecond
    (local_second value) ≡ Ok value
date_time_timestamp-leads_back value valid =
    grind (
      arith,
      nat_tests,
      instant_of_seconds,
      day_number-small,
      later-microsecond,
      instant_date_time-local,
    )

-- an instant outside the years is refused at the beginning of its text
range-refused : {A E : Type 0} (refuse : ParseError → ℕ → E) (instant : Instant) (value : A)
    (fault : ParseError) → Err fault ≡ range_answer instant
    → Err (refuse fault 0)
    ≡ first_refusal_or refuse (all_at_byte 0 (range_table instant)) (Ok value)
range-refused refuse instant value fault refused = search rules

pub decimal-refused : {E : Type 0} (refuse : ParseError → ℕ → E) (row : UnitRow)
    (behavior : Behavior) (text : List ℕ) (decimal : DecimalParts) (fault : ParseError)
    → (digits_row behavior row decimal).holds ≡ true
    → Err fault ≡ range_answer (decimal_instant row decimal)
    → Err (refuse fault 0) ≡ seen_as refuse (decimal_instant_answer row behavior text decimal)
decimal-refused refuse row behavior text decimal fault few refused =
    search (rules, range-refused, seen-table)
