-- Offsets from UTC, in seconds.
use Rattle.std.specs.Prelude.{◌≡◌, ◌%◌, ◌<◌, Bool, true, List, [], ◌∷◌, nat_lt, Option, ℤ, unsigned_abs}
use Rattle.std.specs.Option.{ForSome, option_map_or}
use Rattle.speedate_base.specs.Requirement.{NumberRow, ◌else_fault◌, ParseError}

-- an offset is less than 24 hours (RFC 3339 5.6, time-hour and time-minute of time-numoffset)
abbrev pub IsOffset : ℤ → Type 0
IsOffset offset = unsigned_abs offset < 86400

-- the test whether an offset is less than 24 hours
abbrev pub is_offset : ℤ → Bool
is_offset offset = nat_lt (unsigned_abs offset) 86400

-- what an offset that is asked for has to meet; if none is asked for there is nothing to meet
abbrev pub offset_table : Option ℤ → List NumberRow
offset_table offset = (option_map_or is_offset offset true else_fault ParseError.OutOfRangeTz) ∷ []

-- an offset, if there is one, is whole minutes (RFC 3339 4.2)
abbrev pub IsWholeMinutes : Option ℤ → Type 0
IsWholeMinutes offset = ForSome offset (λ seconds. unsigned_abs seconds % 60 ≡ 0)
