-- Where the offset of a value begins.
use Rattle.std.proofs.Common.{◌≡◌, ℕ, ◌<◌, List, length, ap, arith}
use Rattle.std.specs.Prelude.{not}
use Rattle.std.specs.List.{position}
use Rattle.std.proofs.lemmas.List.{drop_all}
use Rattle.speedate_scan.specs.Scan.{is_clock_byte, offset_from, offset_place}

-- a text without bytes after a date and a separator has no offset
pub no_offset_in : (text : List ℕ) → length text < 11 → offset_place text ≡ 0
no_offset_in text short =
    ap (λ (l : List ℕ). offset_from text (position (λ byte. not (is_clock_byte byte)) l))
    (drop_all 11 text (omega arith))
