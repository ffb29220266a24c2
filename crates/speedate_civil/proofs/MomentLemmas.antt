-- The date-time of a moment.
use Rattle.std.proofs.Common.{◌≡◌, ◌≤◌, ℤ, pos, ◌+ℤ◌, Some, Result, Ok, Err, rules}
use Rattle.speedate_base.specs.Offset.{offset_table}
use Rattle.speedate_base.specs.Requirement.{first_fault_or}
use Rattle.speedate_civil.specs.declared.datetime.now.Moment.{Moment}
use Rattle.speedate_civil.specs.Base.{ParseError}
use Rattle.speedate_civil.specs.DateTime.{instant_date_time, moment_answer}

-- up to the year 9999 in UTC, and with an offset in its range, it is what a clock there shows
pub moment-shown : (offset : ℤ) (moment : Moment) (met : Unit {0}) → moment.second ≤ 253402300799
    → Ok met ≡ first_fault_or (offset_table (Some offset)) (Ok tt)
    → moment_answer offset moment
    ≡ instant_date_time (Some offset)
    (record { second = pos moment.second +ℤ offset; microsecond = moment.microsecond })
moment-shown offset moment met early range = search rules

-- and an offset that is not in its range is refused
pub moment-refused : (offset : ℤ) (moment : Moment) (met : Result (Unit {0}) ParseError)
    (fault : ParseError) → moment.second ≤ 253402300799
    → met ≡ first_fault_or (offset_table (Some offset)) (Ok tt) → met ≡ Err fault
    → moment_answer offset moment ≡ Err fault
moment-refused offset moment met fault early range refused = search rules
