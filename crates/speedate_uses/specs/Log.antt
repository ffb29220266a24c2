-- The lines of a log, each of which begins with a date-time.
use Rattle.std.specs.declared.cmp.Ordering.{Ordering}
use Rattle.std.specs.Prelude.{ℕ, ℤ, Bool, false, ◌&&◌, List, Result, Ok, Err}
use Rattle.std.specs.Ordering.{int_cmp, is_le, nat_cmp, ordering_then}
use Rattle.speedate.specs.Base.{Behavior, ParseError}
use Rattle.speedate.specs.DateTime.{DateAndTime, date_time_front, date_time_instant_order}
use Rattle.speedate.specs.DateTime.{local_second, utc_second}
use Rattle.speedate.specs.Refused.{without_place}

-- a date-time that was read lies between two others by instant, both among them; what was refused
-- does not
abbrev pub lies_between : DateAndTime → DateAndTime → Result (DateAndTime × ℕ) ParseError → Bool
lies_between first last (Ok front) =
    is_le (date_time_instant_order first front.0) && is_le (date_time_instant_order front.0 last)
lies_between first last (Err fault) = false

-- a line begins with a date-time that lies between two others by instant
abbrev pub is_between : Behavior → DateAndTime → DateAndTime → List ℕ → Bool
is_between behavior first last line =
    lies_between first last (without_place (date_time_front behavior line))

-- what tells the instant of a date-time: its second in UTC, as which a clock without an offset
-- counts, and its microsecond
abbrev pub instant_key : DateAndTime → ℤ × ℕ
instant_key value = (utc_second value, value.time.microsecond)

-- what tells the instant that the clock of a date-time shows: its second and its microsecond
abbrev pub local_key : DateAndTime → ℤ × ℕ
local_key value = (local_second value, value.time.microsecond)

-- the order of keys that tell instants: by second, then by microsecond
abbrev pub instant_key_order : ℤ × ℕ → ℤ × ℕ → Ordering
instant_key_order first second = ordering_then (int_cmp first.0 second.0) (nat_cmp first.1 second.1)
