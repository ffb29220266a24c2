-- With which status a run ends, which bad values it tells, and which files are one.
use Rattle.std.specs.Prelude.{ℕ, ◌==◌, ◌&&◌, ◌||◌, Bool, nat_le, nat_lt, Result, Ok, Err, if◌then◌else◌}
use Rattle.speedate_stream.specs.declared.run.RunError.{RunError}

-- the status by the lines: by how many values were bad, by how many were reported as late or after
-- a gap, and by whether a total has too many days
abbrev pub lines_status : ℕ → ℕ → Bool → ℕ
lines_status bad reported is_too_large =
    if nat_lt 0 bad || (nat_lt 0 reported || is_too_large) then 1 else 0

-- the status by a file: by which end failed, if one did, and by whether no line of it has a value
abbrev pub file_status : Result (Unit {0}) RunError → Bool → ℕ
file_status (Ok done) is_without_value = if is_without_value then 1 else 0
file_status (Err RunError.Read) is_without_value = 3
file_status (Err RunError.Write) is_without_value = 4

-- the larger of two statuses
abbrev pub worse : ℕ → ℕ → ℕ
worse one other = if nat_lt one other then other else one

-- the report at an index is one of those of the bad values, and comes after those that were told
abbrev pub is_due : ℕ → ℕ → ℕ → Bool
is_due index told bad = nat_le told index && nat_lt index bad

-- two files are one, by the number of the device of each, and its number on that device
abbrev pub are_one : ℕ × ℕ → ℕ × ℕ → Bool
are_one one other = (one.0 == other.0) && (one.1 == other.1)
