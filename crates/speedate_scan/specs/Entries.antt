-- Entries: lines with a value, and the lines without one after each.
use Rattle.std.specs.Prelude.{ℕ, ℤ, Bool, List, [], ◌∷◌, ◌++◌, if◌then◌else◌}
use Rattle.speedate.specs.Ascii.{line_feed}
use Rattle.speedate_stream.specs.Machine.{head}
use Rattle.speedate_stream.specs.Watch.{one_more}
use Rattle.speedate_scan.specs.Print.{Prefix, prefix_text}
use Rattle.speedate_scan.specs.Scan.{LineKind, Scan, is_value, keeps, line_of, passed}

-- a line of a file: what it is to the command, and how it is printed if it is
pub record Marked : Type 0 where
  pub what : LineKind
  pub kept : Bool
  pub printed : List ℕ

-- how a line is printed: after its prefix, and with a line feed
abbrev pub printed_line : Prefix → Scan → List ℕ → List ℕ
printed_line prefix scan line =
    prefix_text prefix scan.name.now (one_more scan.number) ++ (line ++ line_feed ∷ [])

-- a line by what is known before it
abbrev pub mark : Prefix → Scan → List ℕ → LineKind → Marked
mark prefix scan line what = record {
  what = what;
  kept = keeps scan what;
  printed = printed_line prefix scan line;
}

-- each line of a file, by what is known before it
abbrev pub marked : Prefix → Scan → List (List ℕ) → List Marked
marked prefix scan [] = []
marked prefix scan (line ∷ lines) =
    let what = line_of scan (head line) in
    mark prefix scan line what ∷ marked prefix (passed scan what) lines

-- a line with a value, and the lines without one after it
pub record Entry : Type 0 where
  pub instant : ℤ
  pub lines : List Marked

-- lines up to the next one with a value
abbrev pub up_to_value : List Marked → List Marked
up_to_value [] = []
up_to_value (line ∷ lines) = if is_value line.what then [] else line ∷ up_to_value lines

-- an entry that a line begins, if it has a value, before other entries
abbrev pub entry_and : LineKind → Marked → List Marked → List Entry → List Entry
entry_and (LineKind.Value found) line lines others =
    record { instant = found.instant; lines = line ∷ up_to_value lines } ∷ others
entry_and LineKind.Late line lines others = others
entry_and LineKind.Header line lines others = others
entry_and (LineKind.Bad bad) line lines others = others
entry_and LineKind.Unfit line lines others = others
entry_and LineKind.Undated line lines others = others

-- the entries of lines; those before the first value belong to none
abbrev pub entries : List Marked → List Entry
entries [] = []
entries (line ∷ lines) = entry_and line.what line lines (entries lines)

-- the lines of an entry that are not left out
abbrev pub lines_text : List Marked → List ℕ
lines_text [] = []
lines_text (line ∷ lines) = (if line.kept then line.printed else []) ++ lines_text lines
