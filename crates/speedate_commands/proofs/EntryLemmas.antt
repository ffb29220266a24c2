-- What the machine of `between` prints is entries, kept or dropped whole.
use Rattle.std.proofs.Common.{◌≡◌, ℕ, Bool, true, false, List, [], ◌∷◌, ◌++◌, refl, sym, arith, append_assoc, length, drop, min}
use Rattle.std.proofs.lemmas.Bool.{and_parts, and_right, both_ways, ne_eqb, not-true}
use Rattle.std.specs.Prelude.{◌&&◌, ◌==◌, not, Some, None, if◌then◌else◌}
use Rattle.speedate.specs.Ascii.{line_feed}
use Rattle.speedate_stream.specs.Machine.{head, lines_output, rest_of}
use Rattle.speedate_stream.specs.Watch.{one_more}
use Rattle.speedate_scan.specs.Scan.{is_stopped, keeps, line_of, passed}
use Rattle.speedate_scan.specs.Entries.{Marked, entries, lines_text, mark, marked, printed_line}
use Rattle.speedate_scan.specs.Entries.{up_to_value}
use Rattle.speedate_commands.specs.Base.{LineKind, Scan}
use Rattle.speedate_commands.specs.Between.{Between, awaits_header, between_after, between_lines}
use Rattle.speedate_commands.specs.Between.{between_machine, between_rest, between_text}
use Rattle.speedate_commands.specs.Between.{entries_text, file_text, kept_after, lies_between}
use Rattle.speedate_commands.proofs.KindLemmas.{MayBe, line_of_may}

-- The header of a file.

-- a line that was counted is not the first of a file
counted_once : (goes_on header : Bool) (number : ℕ)
    → (goes_on && (header && (one_more number == 0))) ≡ false
counted_once goes_on header number =
    let counted = ne_eqb (one_more number) 0 (λ none. omega (arith, none)) in
    and_right goes_on _ (and_right header _ counted)

-- after a line a file's header has come
pub header_came : (scan : Scan) (what : LineKind) → awaits_header scan ≡ false
    → awaits_header (passed scan what) ≡ false
unfolding passed
header_came scan LineKind.Late came = came
header_came scan what came =
    counted_once (not (is_stopped (passed scan what).stop)) scan.has_header scan.number

-- after the header itself, too
pub header_passed : (scan : Scan) → awaits_header (passed scan LineKind.Header) ≡ false
unfolding passed
header_passed scan = counted_once (not (is_stopped scan.stop)) scan.has_header scan.number

-- the line that a file waits for is its header
pub line_is_header : (scan : Scan) (line : List ℕ) → awaits_header scan ≡ true
    → line_of scan line ≡ LineKind.Header
unfolding line_of
line_is_header scan line awaited =
    let parts = and_parts _ _ awaited in
    rw (not-true (is_stopped scan.stop) parts.0, parts.1) refl

-- What is printed of one line.

-- a line from its first byte on
from_front : (line : List ℕ) → drop (min 0 (length (head line))) line ≡ line
from_front line = let none : min 0 (length (head line)) ≡ 0 = omega arith in rw none refl

-- a line that is printed whole after a prefix
whole_line : (test : Bool) (prefix line : List ℕ)
    → (if test then prefix else []) ++ rest_of (if test then Some 0 else None) line
    ≡ (if test then prefix ++ (line ++ line_feed ∷ []) else [])
whole_line true prefix line = rw (from_front line) refl
whole_line false prefix line = refl

-- a line with a value begins an entry
begins_entry : (lies is_kept : Bool) (text rest others : List ℕ)
    → (if lies then text else []) ++ ((if lies then rest else []) ++ others)
    ≡ (if is_kept then [] else []) ++ ((if lies then text ++ rest else []) ++ others)
begins_entry lies is_kept text rest others = grind (arith, append_assoc text rest others)

-- a line without a value belongs to the entry before it
joins_entry : (is_kept kept : Bool) (text rest others : List ℕ)
    → (if is_kept && kept then text else []) ++ ((if is_kept then rest else []) ++ others)
    ≡ (if is_kept then (if kept then text else []) ++ rest else []) ++ others
joins_entry is_kept kept text rest others = grind (arith, append_assoc text rest others)

-- what a line that is no header adds to what is printed of the lines after it
one_line : (between : Between) (line : List ℕ) (what : LineKind) (lines : List Marked)
    → awaits_header between.scan ≡ false → MayBe between.scan what
    → (between_text between what ++ rest_of (between_rest between what) line)
    ++ between_lines between.bounds (kept_after between what) lines
    ≡ between_lines between.bounds between.is_kept
    (mark between.prefix between.scan line what ∷ lines)
one_line between line (LineKind.Value found) lines came may =
    rw whole_line (begins_entry (lies_between between.bounds found.instant) between.is_kept
    (printed_line between.prefix between.scan line) (lines_text (up_to_value lines))
    (entries_text between.bounds (entries lines)))
one_line between line LineKind.Header lines came may = absurd (both_ways _ came may)
one_line between line LineKind.Late lines came may = refl
one_line between line LineKind.Unfit lines came may = refl
one_line between line what lines came may =
    rw whole_line (joins_entry between.is_kept (keeps between.scan what)
    (printed_line between.prefix between.scan line) (lines_text (up_to_value lines))
    (entries_text between.bounds (entries lines)))

-- What is printed of a file.

-- what is printed of no lines
pub nothing : (is_kept : Bool) → let none : List ℕ = [] in (if is_kept then [] else []) ++ [] ≡ none
nothing is_kept = grind arith

-- after the header the machine prints entries
prints_entries : (between : Between) (lines : List (List ℕ)) → awaits_header between.scan ≡ false
    → lines_output between_machine between lines
    ≡ between_lines between.bounds between.is_kept (marked between.prefix between.scan lines)
prints_entries between [] came = sym (nothing between.is_kept)
prints_entries between (line ∷ lines) came =
    let what : LineKind = line_of between.scan (head line) in
    let later = prints_entries (between_after between what) lines
    (header_came between.scan what came) in
    let others : List Marked = marked between.prefix (passed between.scan what) lines in
    rw later (one_line between line what others came (line_of_may between.scan (head line)))

-- a file of one line or more, by whether that is its header
prints_file : (between : Between) (line : List ℕ) (lines : List (List ℕ)) (awaits : Bool)
    → awaits_header between.scan ≡ awaits
    → lines_output between_machine between (line ∷ lines) ≡ file_text between (line ∷ lines)
prints_file between line lines true awaited =
    let later = prints_entries (between_after between LineKind.Header) lines
    (header_passed between.scan) in
    rw (awaited, line_is_header between.scan (head line) awaited, later, from_front) refl
prints_file between line lines false came = rw came (prints_entries between (line ∷ lines) came)

-- `between` prints of a file its header, and the entries whose value lies between the bounds
pub between_prints : (between : Between) (lines : List (List ℕ))
    → lines_output between_machine between lines ≡ file_text between lines
between_prints between [] = refl
between_prints between (line ∷ lines) =
    prints_file between line lines (awaits_header between.scan) refl
