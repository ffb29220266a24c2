-- What a clock at another offset shows.
use Rattle.std.proofs.Common.{rules}
use Rattle.std.proofs.Common.{◌≡◌, sym, ℕ, ◌*◌, ◌<◌, true, false, int_le, int_lt, ℤ, pos, ◌+ℤ◌, ◌-ℤ◌, unsigned_abs, Option, Some, unwrap_or, Ok, Err, w32, to_z, of_z, arith}
use Rattle.speedate_civil.specs.Base.{ParseError}
use Rattle.std.proofs.lemmas.Bool.Decides.{nat_tests}
use Rattle.std.proofs.lemmas.Int.{ints}
use Rattle.speedate_base.specs.Requirement.{AllHold, first_fault_or}
use Rattle.speedate_base.specs.Timestamp.{seconds_per_day}
use Rattle.speedate_civil.specs.Instant.{move_table}
use Rattle.speedate_civil.specs.Time.{TimeOfDay, time_at, time_in_timezone, utc_second_of_day}
use Rattle.speedate_base.proofs.RefusalLemmas.{refusal-value}
use Rattle.speedate_civil.specs.DateTime.{DateAndTime, local_second, utc_second}

-- where a clock moves by the difference of the offsets, its second is the instant's and the offset
pub clock-moved : (old : Option ℤ) (offset shift local second : ℤ)
    → Ok shift ≡ first_fault_or (move_table offset old) (Ok (offset -ℤ unwrap_or old (pos 0)))
    → second ≡ local +ℤ shift
    → AllHold (move_table offset old) × (second ≡ (local -ℤ unwrap_or old (pos 0)) +ℤ offset)
clock-moved old offset shift local second moved sum = search (rules, refusal-value)

-- so of a date-time
pub second-moved : (value : DateAndTime) (offset shift local second : ℤ)
    → Ok shift ≡ first_fault_or (move_table offset value.time.offset)
    (Ok (offset -ℤ unwrap_or value.time.offset (pos 0)))
    → local ≡ local_second value → second ≡ local +ℤ shift
    → AllHold (move_table offset value.time.offset) × (second ≡ utc_second value +ℤ offset)
second-moved value offset shift local second moved same sum = search (rules, clock-moved)

-- and the instant is the same
pub instant-kept : (value moved : DateAndTime) (offset second : ℤ)
    → second ≡ utc_second value +ℤ offset
    → local_second moved ≡ second → unwrap_or moved.time.offset (pos 0) ≡ offset
    → utc_second moved ≡ utc_second value
instant-kept value moved offset second sum shown attached =
    omega (arith, ints, sum, shown, attached)

-- a second of a day and a shift, added in 32 bits
pub sum-in-bits : (second : ℕ) (shift : ℤ) → second < seconds_per_day
    → unsigned_abs shift < 2 * seconds_per_day
    → to_z w32 (of_z w32 (to_z w32 second +ℤ to_z w32 (of_z w32 shift))) ≡ pos second +ℤ shift
sum-in-bits second shift early small = omega (arith, ints)

-- a time whose second stays in its day is the one there
pub time-moved : (time : TimeOfDay) (offset second : ℤ) → AllHold (move_table offset time.offset)
    → second ≡ utc_second_of_day time +ℤ offset → int_lt second (pos 0) ≡ false
    → int_le (pos seconds_per_day) second ≡ false
    → time_in_timezone offset time ≡ Ok
    (time_at (unsigned_abs second) time.microsecond (Some offset))
time-moved time offset second rows is after before =
    rw (sym is, rows.0, rows.1.0) (grind (arith, ints, nat_tests))

-- and one whose second does not is refused
pub time-before : (time : TimeOfDay) (offset second : ℤ) → AllHold (move_table offset time.offset)
    → second ≡ utc_second_of_day time +ℤ offset → int_lt second (pos 0) ≡ true
    → time_in_timezone offset time ≡ Err ParseError.TimeTooLarge
time-before time offset second rows is out =
    rw (sym is, rows.0, rows.1.0) (grind (arith, ints, nat_tests))

pub time-after : (time : TimeOfDay) (offset second : ℤ) → AllHold (move_table offset time.offset)
    → second ≡ utc_second_of_day time +ℤ offset → int_le (pos seconds_per_day) second ≡ true
    → time_in_timezone offset time ≡ Err ParseError.TimeTooLarge
time-after time offset second rows is out =
    rw (sym is, rows.0, rows.1.0) (grind (arith, ints, nat_tests))

-- the instant is the same
pub second_of_day-kept : (time moved : TimeOfDay) (offset second : ℤ)
    → second ≡ utc_second_of_day time +ℤ offset
    → int_lt second (pos 0) ≡ false
    → moved ≡ time_at (unsigned_abs second) time.microsecond (Some offset)
    → utc_second_of_day moved ≡ utc_second_of_day time
second_of_day-kept time moved offset second is after same = rw same (omega (arith, ints))
