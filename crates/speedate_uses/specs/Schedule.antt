-- When a job that runs every so often runs next, by microseconds of any size.
use Rattle.std.specs.Prelude.{◌≡◌, ℕ, ◌+◌, ◌*◌, ◌/◌, ◌≤◌, if◌then◌else◌, Option, Some, None, ℤ, pos, negsuc, ◌+ℤ◌, ◌-ℤ◌, ◌*ℤ◌, ◌<ℤ◌, ◌≤ℤ◌, int_lt, Result, Ok}
use Rattle.speedate.specs.Base.{ParseError}
use Rattle.speedate.specs.DateTime.{DateAndTime, utc_microsecond}
use Rattle.speedate.specs.Duration.{signed_amount, date_time_later}
use Rattle.speedate.specs.DurationNumbers.{DurationNumbers, amount_microseconds}
use Rattle.speedate.specs.Requirement.{result_map}

-- which run after the last one is the first that is later than now, where the interval, and what
-- has gone by since the last run, are in microseconds; where a clock was set back it is the one
-- after the last
abbrev pub next_count : ℕ → ℤ → ℕ
next_count every (pos gone) = gone / every + 1
next_count every (negsuc below) = 1

-- the next run, as a clock at the offset of the last one shows it, or the fault of one outside the
-- years 0000 to 9999; none where the time between two runs is zero or negative
abbrev pub next_run_answer : DateAndTime → DurationNumbers → DateAndTime
    → Result (Option DateAndTime) ParseError
next_run_answer last every now =
    let length = amount_microseconds every in
    if int_lt (pos 0) (signed_amount every)
    then result_map Some (date_time_later (pos (next_count length
    (utc_microsecond now -ℤ utc_microsecond last) * length)) last)
    else Ok None

-- an instant is the first run later than now: it comes one or more times `every` after the last
-- run, it is later than now, and each run later than now comes then or after it
pub record IsNextRun (last every now run : ℤ) : Type 0 where
  pub due : (count : ℕ) × (1 ≤ count) × (run ≡ last +ℤ pos count *ℤ every)
  pub later : now <ℤ run
  pub first : (count : ℕ) → 1 ≤ count → now <ℤ (last +ℤ pos count *ℤ every)
      → run ≤ℤ (last +ℤ pos count *ℤ every)
