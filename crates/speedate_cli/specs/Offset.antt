-- An offset of the command line.
use Rattle.std.specs.Prelude.{ℕ, ℤ, pos, ◌==◌, ◌||◌, Bool, List, codes, length, slice_index, Option, Some, None, Result, Ok, Err, if◌then◌else◌}
use Rattle.speedate.specs.Ascii.{space}
use Rattle.speedate_base.specs.declared.refusal.Refused.{Refused}
use Rattle.speedate.specs.Loose.{zone_front}
use Rattle.speedate_cli.specs.Word.{is_word}

-- the offset of a zone that takes so many bytes
abbrev pub offset_in : ℕ → Result (Option ℤ × ℕ) Refused → Option ℤ
offset_in size (Ok zone) = if zone.1 == size then zone.0 else None
offset_in size (Err refused) = None

-- `utc`, or `UTC`
abbrev pub is_utc : List ℕ → Bool
is_utc text = is_word text (codes "utc") || is_word text (codes "UTC")

-- the seconds of `utc`, or of an offset as values may have it right after their clock
abbrev pub offset_of : List ℕ → Option ℤ
offset_of text =
    if is_utc text then Some (pos 0)
    else if slice_index text 0 == space then None
    else offset_in (length text) (zone_front 0 text)
