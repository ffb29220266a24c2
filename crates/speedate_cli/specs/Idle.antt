-- Options that can have no effect.
use Rattle.std.specs.Prelude.{Bool, true, false, not, ◌&&◌, Option, Some, None, if◌then◌else◌}
use Rattle.speedate_scan.specs.declared.scan.BadLines.{BadLines}
use Rattle.speedate_scan.specs.declared.scan.UndatedLines.{UndatedLines}
pub use Rattle.speedate_cli.specs.declared.idle.Kind.{Kind}
pub use Rattle.speedate_cli.specs.declared.idle.Asked.{Asked}
pub use Rattle.speedate_cli.specs.declared.idle.BoundsKind.{BoundsKind}
pub use Rattle.speedate_cli.specs.declared.idle.Idle.{Idle}

-- an option about clocks and offsets, where values are dates
abbrev pub about_dates : Asked → Option Idle
about_dates asked =
    if not asked.is_date then None
    else if asked.is_strict then Some Idle.StrictOfDates
    else if asked.has_fraction then Some Idle.FractionOfDates
    else if asked.has_offset then Some Idle.OffsetOfDates
    else if asked.has_target then Some Idle.TargetOfDates
    else None

-- values are compared only where that is asked for
abbrev pub checks : Kind → Bool
checks Kind.Prints = false
checks Kind.Reports = false
checks Kind.Checks = true

-- at least one bound is a date, or a date-time without an offset
abbrev pub are_local : Option BoundsKind → Bool
are_local None = false
are_local (Some BoundsKind.Open) = false
are_local (Some BoundsKind.Fixed) = false
are_local (Some BoundsKind.Local) = true

-- both bounds are open
abbrev pub are_open : Option BoundsKind → Bool
are_open None = false
are_open (Some BoundsKind.Open) = true
are_open (Some BoundsKind.Fixed) = false
are_open (Some BoundsKind.Local) = false

-- `--offset` is given for Unix timestamps, and no bound may need it
abbrev pub is_offset_of_numbers : Asked → Bool
is_offset_of_numbers asked =
    asked.has_offset && (asked.is_timestamp && not (are_local asked.bounds))

-- `--offset` where each value has an offset, no values are compared or all fit, and `--strict` and
-- `--to utc` for Unix timestamps
abbrev pub about_offset : Asked → Option Idle
about_offset asked =
    if asked.is_strict && asked.is_timestamp then Some Idle.StrictOfTimestamps
    else if asked.is_target_utc && asked.is_timestamp then Some Idle.TargetOfTimestamps
    else if asked.has_offset && asked.is_strict then Some Idle.OffsetOfStrict
    else if is_offset_of_numbers asked then Some Idle.OffsetOfTimestamps
    else if asked.has_offset && (checks asked.kind && not asked.compares)
    then Some Idle.OffsetOfCheck
    else if asked.has_offset && are_open asked.bounds then Some Idle.OffsetOfOpen
    else None

-- the run is to end at a bad value
abbrev pub ends_at_bad : Option BadLines → Bool
ends_at_bad None = false
ends_at_bad (Some BadLines.Keep) = false
ends_at_bad (Some BadLines.Stop) = true

-- `--digits` for values without such digits, and `--in-order` where nothing is searched
abbrev pub about_search : Asked → Option Idle
about_search asked =
    if asked.has_digits && asked.is_whole then Some Idle.DigitsOfWhole
    else if asked.is_in_order && are_open asked.bounds then Some Idle.SearchOfOpen
    else if asked.is_in_order && ends_at_bad asked.bad then Some Idle.SearchOfStop
    else None

-- lines with a bad value are to be printed, or not
abbrev pub about_bad : Option BadLines → Option Idle
about_bad None = None
about_bad (Some BadLines.Keep) = Some Idle.Bad
about_bad (Some BadLines.Stop) = None

-- lines without a value are to be printed, or not; a field without a value is bad by default
abbrev pub about_undated : Bool → Option UndatedLines → Option BadLines → Option Idle
about_undated has_field None bad = about_bad bad
about_undated has_field (Some UndatedLines.Bad) bad = about_bad bad
about_undated true (Some UndatedLines.Join) bad = about_bad bad
about_undated true (Some UndatedLines.Drop) bad = about_bad bad
about_undated false (Some UndatedLines.Join) bad = Some Idle.Undated
about_undated false (Some UndatedLines.Drop) bad = Some Idle.Undated

-- what is to be done with lines, where none is printed
abbrev pub about_lines_of : Kind → Asked → Option Idle
about_lines_of Kind.Prints asked = None
about_lines_of Kind.Reports asked = about_undated asked.has_field asked.undated asked.bad
about_lines_of Kind.Checks asked = about_undated asked.has_field asked.undated asked.bad

abbrev pub about_lines : Asked → Option Idle
about_lines asked = about_lines_of asked.kind asked

-- the first of two options that is there
abbrev pub first_of_two : Option Idle → Option Idle → Option Idle
first_of_two None other = other
first_of_two (Some found) other = Some found

-- an option that can have no effect, if there is one
abbrev pub idle : Asked → Option Idle
idle asked =
    first_of_two (about_dates asked) (first_of_two (about_offset asked)
    (first_of_two (about_search asked) (about_lines asked)))
