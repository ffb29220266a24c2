-- The command `between`: the entries whose value lies between two bounds.
use Rattle.std.specs.Prelude.{◌≡◌, ℕ, ℤ, ◌==◌, ◌&&◌, not, Bool, true, false, List, [], ◌∷◌, ◌++◌, Option, Some, None, int_le, int_lt, if◌then◌else◌}
use Rattle.std.specs.Borrow.{Bor}
use Rattle.speedate_stream.specs.Machine.{Machine, state_after}
use Rattle.speedate_stream.specs.Watch.{one_more}
use Rattle.speedate_scan.specs.Entries.{Entry, Marked, entries, lines_text, marked, printed_line}
use Rattle.speedate_scan.specs.Entries.{up_to_value}
use Rattle.speedate_scan.specs.Print.{call_kind, prefix_text}
use Rattle.speedate_scan.specs.Scan.{begun, is_stopped, keeps, line_of, passed}
use Rattle.speedate_commands.specs.Base.{LineKind, Scan}
use Rattle.speedate_commands.specs.Runs.{About}
pub use Rattle.speedate_commands.specs.declared.between.Bounds.{Bounds}
pub use Rattle.speedate_commands.specs.declared.between.Between.{Between}

-- a nanosecond is not before the first bound, which may be open
abbrev pub is_begun : Option ℤ → ℤ → Bool
is_begun None instant = true
is_begun (Some from) instant = int_le from instant

-- a nanosecond is before the second bound, which may be open
abbrev pub is_open : Option ℤ → ℤ → Bool
is_open None instant = true
is_open (Some to) instant = int_lt instant to

-- FROM <= value < TO
abbrev pub lies_between : Bounds → ℤ → Bool
lies_between bounds instant = is_begun bounds.from instant && is_open bounds.to instant

-- a line is printed: the header, a line whose value lies between the bounds, and with it the lines
-- of its entry that are not left out
abbrev pub prints : Between → LineKind → Bool
prints between LineKind.Header = true
prints between (LineKind.Value found) = lies_between between.bounds found.instant
prints between (LineKind.Bad bad) = between.is_kept && keeps between.scan (LineKind.Bad bad)
prints between LineKind.Undated = between.is_kept && keeps between.scan LineKind.Undated
prints between LineKind.Late = false
prints between LineKind.Unfit = false

-- the entry of a line is printed
abbrev pub kept_after : Between → LineKind → Bool
kept_after between (LineKind.Value found) = lies_between between.bounds found.instant
kept_after between LineKind.Header = between.is_kept
kept_after between (LineKind.Bad bad) = between.is_kept
kept_after between LineKind.Undated = between.is_kept
kept_after between LineKind.Late = between.is_kept
kept_after between LineKind.Unfit = between.is_kept

-- what is known after a line
abbrev pub between_after : Between → LineKind → Between
between_after between line = record between {
  scan = passed between.scan line;
  is_kept = kept_after between line;
}

-- the prefix of a line that is printed
abbrev pub between_text : Between → LineKind → List ℕ
between_text between line =
    if prints between line
    then prefix_text between.prefix between.scan.name.now (one_more between.scan.number)
    else []

-- the whole of a line that is printed
abbrev pub between_rest : Between → LineKind → Option ℕ
between_rest between line = if prints between line then Some 0 else None

-- the lines of the entries whose value lies between the bounds
abbrev pub between_machine : Machine Between
between_machine = record {
  after = λ between head. between_after between (line_of between.scan head);
  text = λ between head. between_text between (line_of between.scan head);
  rest = λ between head. between_rest between (line_of between.scan head);
  done = λ between. is_stopped between.scan.stop;
}

-- What is printed of a file.

-- an entry whole if its value lies between the bounds, and otherwise nothing of it
abbrev pub entry_text : Bounds → Entry → List ℕ
entry_text bounds entry =
    if lies_between bounds entry.instant then lines_text entry.lines else []

-- the entries whose value lies between the bounds
abbrev pub entries_text : Bounds → List Entry → List ℕ
entries_text bounds [] = []
entries_text bounds (entry ∷ entries) = entry_text bounds entry ++ entries_text bounds entries

-- what `between` prints of lines without a header: the rest of an entry that has begun and is
-- printed, and then the entries whose value lies between the bounds
abbrev pub between_lines : Bounds → Bool → List Marked → List ℕ
between_lines bounds is_kept lines =
    (if is_kept then lines_text (up_to_value lines) else []) ++ entries_text bounds (entries lines)

-- a file begins with a header that has not come yet
abbrev pub awaits_header : Scan → Bool
awaits_header scan = not (is_stopped scan.stop) && (scan.has_header && (scan.number == 0))

-- what `between` prints of a file: its header, if it has one, and then the entries
abbrev pub file_text : Between → List (List ℕ) → List ℕ
file_text between [] = []
file_text between (line ∷ lines) =
    if awaits_header between.scan
    then printed_line between.prefix between.scan line
    ++ between_lines between.bounds between.is_kept
    (marked between.prefix (passed between.scan LineKind.Header) lines)
    else between_lines between.bounds between.is_kept
    (marked between.prefix between.scan (line ∷ lines))

-- What a run over files knows.

-- what is known when a file with a name begins
abbrev pub between_begun : Between → Bor (List ℕ) → Between
between_begun between name = record between { scan = begun between.scan name }

-- what a run over files has to know of the command
abbrev pub between_about : Between → About
between_about between = record {
  kind = call_kind between.scan.reader.form;
  tells_bad = true;
  before = between.scan.first.before;
  reported = 0;
  is_too_large = false;
  is_in_order = between.is_in_order;
}

-- what is known after the lines of a file, and what is printed of them
abbrev pub between_says : Between → List (List ℕ) → Between → List ℕ → Type 0
between_says before lines after printed =
    (after ≡ state_after between_machine before lines) × (printed ≡ file_text before lines)
