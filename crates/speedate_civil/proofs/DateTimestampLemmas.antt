-- The second of a date's midnight, as a timestamp, leads back to it.
use Rattle.std.proofs.Common.{◌≡◌, refl, ℕ, ◌/◌, ◌%◌, ◌<◌, ◌≤◌, Bool, true, false, IsTrue, int_le, w64, to_z, of_z, Some, Ok, ℤ, pos, ◌+ℤ◌, ◌-ℤ◌, ◌*ℤ◌, unsigned_abs, rules, arith}
use Rattle.speedate_civil.specs.Base.{TimestampUnit}
use Rattle.std.specs.Int.{int_div_euclid, int_rem_euclid}
use Rattle.std.proofs.lemmas.Bool.Decides.{nat_tests}
use Rattle.std.proofs.lemmas.Int.{ints}
use Rattle.speedate_base.specs.Requirement.{AllHold}
use Rattle.speedate_base.specs.Timestamp.{Instant, first_second, last_second, seconds_per_day}
use Rattle.speedate_base.specs.Timestamp.{range_table}
use Rattle.speedate_civil.specs.Calendar.{Ymd, epoch_day, date_of_number, date_numbered}
use Rattle.speedate_civil.specs.Date.{date_timestamp_answer, day_at, day_number_at, instant_date}
use Rattle.speedate_civil.specs.Date.{second_at}
use Rattle.speedate_base.proofs.RefusalLemmas.{refusal-all}
use Rattle.speedate_base.proofs.TimestampLemmas.{instant_of_seconds}

-- the day and the second of a day that a second is
pub day-of : (at : ℤ) (day second : ℕ) → second < seconds_per_day
    → at ≡ (pos day -ℤ pos epoch_day) *ℤ pos seconds_per_day +ℤ pos second
    → unsigned_abs (int_div_euclid at (pos seconds_per_day) +ℤ pos epoch_day) ≡ day
day-of at day second small is = search rules

pub second-of : (at : ℤ) (day second : ℕ) → second < seconds_per_day
    → at ≡ (pos day -ℤ pos epoch_day) *ℤ pos seconds_per_day +ℤ pos second
    → unsigned_abs (int_rem_euclid at (pos seconds_per_day)) ≡ second
second-of at day second small is = search rules

-- a day number of the calendar, and its date
pub counted : (number : ℕ) (date : Ymd) → date_numbered number ≡ Some date
    → (number ≤ 3652424) × (date_of_number number ≡ date)
counted number date numbered = search rules

-- the midnight of that day lies in the years 0000 to 9999
midnight-within : (number : ℕ) (at : ℤ) → number ≤ 3652424
    → at ≡ (pos number -ℤ pos epoch_day) *ℤ pos seconds_per_day
    → AllHold (range_table (record { second = at; microsecond = 0 }))
midnight-within number at small is = grind (arith, ints, nat_tests)

-- which is the date that a timestamp of it has, whether it has to be exact or not
midnight-date : (exact : Bool) (at : ℤ) (number : ℕ) (date : Ymd) → second_at at ≡ 0
    → day_at at ≡ number
    → date_of_number number ≡ date
    → instant_date exact (record { second = at; microsecond = 0 }) ≡ Ok date
midnight-date true at number date midnight day is = rw (midnight, day, is) refl
midnight-date false at number date midnight day is = rw (day, is) refl

pub date_timestamp-leads_back : (number : ℕ) (date : Ymd) (at : ℤ) (exact : Bool)
    → date_numbered number ≡ Some date
    → at ≡ (pos number -ℤ pos epoch_day) *ℤ pos seconds_per_day
    → date_timestamp_answer TimestampUnit.Second exact at ≡ Ok date
date_timestamp-leads_back number date at exact numbered is =
    let day : day_at at ≡ number = day-of at number 0 (omega arith) (omega (arith, ints, is)) in
    let midnight = second-of at number 0 (omega arith) (omega (arith, ints, is)) in
    let instant : Instant = record { second = at; microsecond = 0 } in
    search (rules, midnight-within, refusal-all, instant_of_seconds, midnight-date, counted)

-- the seconds from 0000-01-01T00:00:00 to a second, in 64 bits
abbrev pub since : ℤ → ℕ
since second = unsigned_abs (to_z w64 (of_z w64 (to_z w64 (of_z w64 second) -ℤ first_second)))

since-is : (second : ℤ) → IsTrue (int_le first_second second) → IsTrue (int_le second last_second)
    → (pos (since second) ≡ second +ℤ pos 62167219200) × (since second < 315569520000)
since-is second after before = (grind (arith, ints), grind (arith, ints))

day_number-of : (at : ℤ) (day second : ℕ) → second < seconds_per_day
    → at ≡ (pos day -ℤ pos epoch_day) *ℤ pos seconds_per_day +ℤ pos second
    → pos day ≡ int_div_euclid at (pos seconds_per_day) +ℤ pos epoch_day
day_number-of at day second small is = search rules

-- its day and its second of that day
pub record Since (at : ℤ) (per_day : ℕ) : Type 0 where
  pub day : since at / per_day ≡ day_at at
  pub number : pos (since at / per_day) ≡ day_number_at at
  pub small : since at / per_day ≤ 3652424
  pub second : since at % per_day ≡ second_at at

pub since-counted : (second : ℤ) (per_day : ℕ) → IsTrue (int_le first_second second)
    → IsTrue (int_le second last_second) → per_day ≡ seconds_per_day → Since second per_day
since-counted second per_day after before same =
    search (rules, since-is, counted, day-of, day_number-of, second-of)
