-- What `between` prints of lines in order is what it prints of the part in which the search ends.
use Rattle.std.proofs.Common.{◌≡◌, ◌∙◌, ℕ, ℤ, Bool, true, false, List, [], ◌∷◌, ◌++◌, refl, ap, sym, subst, arith}
use Rattle.std.proofs.lemmas.Bool.{and_left, and_right, not-true}
use Rattle.std.proofs.lemmas.Int.{ints}
use Rattle.std.proofs.lemmas.Option.{cond_some}
use Rattle.std.specs.Prelude.{◌&&◌, ◌==◌, not, int_le, Option, Some, None, is_some, decimal, if◌then◌else◌}
use Rattle.speedate_stream.specs.Machine.{head}
use Rattle.speedate_stream.specs.Watch.{one_more}
use Rattle.speedate_scan.specs.Print.{prefix_text, with_colon}
use Rattle.speedate_scan.specs.Reading.{read}
use Rattle.speedate_scan.specs.Scan.{fits, has_as, has_offsets, is_stopped, judged, keeps, line_of}
use Rattle.speedate_scan.specs.Scan.{passed, settled, stop_at_bad}
use Rattle.speedate_scan.specs.Entries.{Entry, Marked, entries, entry_and, mark, marked}
use Rattle.speedate_scan.specs.Entries.{up_to_value}
use Rattle.speedate_scan.specs.declared.scan.BadLines.{BadLines}
use Rattle.speedate_commands.specs.Base.{Found, LineKind, Offsets, Prefix, Reading, Scan, Stop}
use Rattle.speedate_commands.specs.Between.{Bounds, awaits_header, entries_text, is_begun, is_open}
use Rattle.speedate_commands.specs.InOrder.{AreInOrder, NoneIsBefore, is_settled, line_value}
use Rattle.speedate_commands.specs.InOrder.{scan_after, value_in}
use Rattle.speedate_commands.proofs.EntryLemmas.{header_came}
use Rattle.speedate_commands.proofs.KindLemmas.{MayBe, line_of_may}

-- Entries in order.

-- an entry is not less than one before it
none_before_one : (instant : ℤ) (some : List Entry) (entry : Entry) (others : List Entry)
    → NoneIsBefore instant (some ++ entry ∷ others) → int_le instant entry.instant ≡ true
none_before_one instant [] entry others none = none.0
none_before_one instant (first ∷ some) entry others none =
    none_before_one instant some entry others none.1

-- the last of entries in order are in order
later_ordered : (some others : List Entry) → AreInOrder (some ++ others) → AreInOrder others
later_ordered [] others ordered = ordered
later_ordered (first ∷ some) others ordered = later_ordered some others ordered.1

-- what is not after a value before the first bound is before that bound too
not_begun : (bound : Option ℤ) (early late : ℤ) → int_le early late ≡ true
    → is_begun bound late ≡ false → is_begun bound early ≡ false
not_begun None early late ordered before = before
not_begun (Some from) early late ordered before = grind (arith, ints)

-- what is not before a value that is not before the second bound is not before that bound either
not_open : (bound : Option ℤ) (early late : ℤ) → int_le early late ≡ true
    → is_open bound early ≡ false → is_open bound late ≡ false
not_open None early late ordered after = after
not_open (Some to) early late ordered after = grind (arith, ints)

-- entries before one whose value is before the first bound are not printed
before_first : (bounds : Bounds) (some : List Entry) (entry : Entry) (others : List Entry)
    → is_begun bounds.from entry.instant ≡ false → AreInOrder (some ++ entry ∷ others)
    → entries_text bounds (some ++ entry ∷ others) ≡ entries_text bounds (entry ∷ others)
before_first bounds [] entry others before ordered = refl
before_first bounds (first ∷ some) entry others before ordered =
    let earlier = none_before_one first.instant some entry others ordered.0 in
    let lies = and_left _ (is_open bounds.to first.instant)
    (not_begun bounds.from first.instant entry.instant earlier before) in
    rw lies (before_first bounds some entry others before ordered.1)

-- entries of which none is before a value that is not before the second bound are not printed
none_open : (bounds : Bounds) (instant : ℤ) (entries : List Entry)
    → is_open bounds.to instant ≡ false → NoneIsBefore instant entries
    → entries_text bounds entries ≡ []
none_open bounds instant [] after none = refl
none_open bounds instant (first ∷ entries) after none =
    let lies = and_right (is_begun bounds.from first.instant) _
    (not_open bounds.to instant first.instant none.0 after) in
    rw lies (none_open bounds instant entries after none.1)

-- nor are entries from one on whose value is not before the second bound
after_second : (bounds : Bounds) (some : List Entry) (entry : Entry) (others : List Entry)
    → is_open bounds.to entry.instant ≡ false → AreInOrder (some ++ entry ∷ others)
    → entries_text bounds (some ++ entry ∷ others) ≡ entries_text bounds some
after_second bounds [] entry others after ordered =
    let lies = and_right (is_begun bounds.from entry.instant) _ after in
    rw lies (none_open bounds entry.instant others after ordered.0)
after_second bounds (first ∷ some) entry others after ordered =
    rw (after_second bounds some entry others after ordered.1) refl

-- Marked lines whose first one has a value begin an entry.

-- the lines before a value stay the same before lines that begin with one
up_to_value-append : (some others : List Marked) → up_to_value others ≡ []
    → up_to_value (some ++ others) ≡ up_to_value some
up_to_value-append [] others begins = begins
up_to_value-append (line ∷ some) others begins = rw (up_to_value-append some others begins) refl

entry_and-append : (what : LineKind) (line : Marked) (some others : List Marked)
    (first second : List Entry) → up_to_value others ≡ []
    → entry_and what line (some ++ others) (first ++ second)
    ≡ entry_and what line some first ++ second
entry_and-append (LineKind.Value found) line some others first second begins =
    rw (up_to_value-append some others begins) refl
entry_and-append what line some others first second begins = refl

-- entries of lines before lines that begin with a value
entries-append : (some others : List Marked) → up_to_value others ≡ []
    → entries (some ++ others) ≡ entries some ++ entries others
entries-append [] others begins = refl
entries-append (line ∷ some) others begins =
    rw (entries-append some others begins)
    (entry_and-append line.what line some others (entries some) (entries others) begins)

-- lines that begin with an entry of whose value something is known
pub record BeginsEntry (P : ℤ → Type 0) (lines : List Marked) : Type 0 where
  pub entry : Entry
  pub later : List Entry
  pub are : entries lines ≡ entry ∷ later
  pub none : up_to_value lines ≡ []
  pub known : P entry.instant

-- the entries of lines before lines that begin with an entry
apart : (P : ℤ → Type 0) (some lines : List Marked) (begins : BeginsEntry P lines)
    → entries (some ++ lines) ≡ entries some ++ begins.entry ∷ begins.later
apart P some lines begins = entries-append some lines begins.none ∙ rw begins.are refl

-- the lines before an entry whose value is before the first bound are not printed
pub skipped_lines : (bounds : Bounds) (some lines : List Marked)
    → BeginsEntry (λ (instant : ℤ). is_begun bounds.from instant ≡ false) lines
    → AreInOrder (entries (some ++ lines))
    → (entries_text bounds (entries (some ++ lines)) ≡ entries_text bounds (entries lines))
    × AreInOrder (entries lines)
skipped_lines bounds some lines begins ordered =
    let all = apart _ some lines begins in
    let ordered_all = subst AreInOrder all ordered in
    rw (all, begins.are) (
      before_first bounds (entries some) begins.entry begins.later begins.known ordered_all,
      later_ordered (entries some) (begins.entry ∷ begins.later) ordered_all,
    )

-- the lines from an entry on whose value is not before the second bound are not printed
pub dropped_lines : (bounds : Bounds) (some lines : List Marked)
    → BeginsEntry (λ (instant : ℤ). is_open bounds.to instant ≡ false) lines
    → AreInOrder (entries (some ++ lines))
    → entries_text bounds (entries (some ++ lines)) ≡ entries_text bounds (entries some)
dropped_lines bounds some lines begins ordered =
    let all = apart _ some lines begins in
    rw all (after_second bounds (entries some) begins.entry begins.later begins.known
    (subst AreInOrder all ordered))

-- Lines after lines.

-- lines after lines are marked by what is known after those
pub marked-append : (prefix : Prefix) (scan : Scan) (some others : List (List ℕ))
    → marked prefix scan (some ++ others)
    ≡ marked prefix scan some ++ marked prefix (scan_after scan some) others
marked-append prefix scan [] others = refl
marked-append prefix scan (line ∷ some) others =
    let what : LineKind = line_of scan (head line) in
    rw (marked-append prefix (passed scan what) some others) refl

pub scan_after-append : (scan : Scan) (some others : List (List ℕ))
    → scan_after scan (some ++ others) ≡ scan_after (scan_after scan some) others
scan_after-append scan [] others = refl
scan_after-append scan (line ∷ some) others =
    scan_after-append (passed scan (line_of scan (head line))) some others

-- a run that has ended does not go on
went_on_bad : (lines : BadLines) (stop : Stop)
    → is_stopped (if is_stopped (stop_at_bad lines) then Stop.AtBad else stop) ≡ false
    → is_stopped stop ≡ false
went_on_bad BadLines.Keep stop goes_on = goes_on
went_on_bad BadLines.Stop stop goes_on = cc

-- a run that goes on after a line went on before it
went_on_line : (scan : Scan) (what : LineKind) → is_stopped (passed scan what).stop ≡ false
    → is_stopped scan.stop ≡ false
unfolding passed
went_on_line scan LineKind.Unfit goes_on = cc
went_on_line scan (LineKind.Bad bad) goes_on = went_on_bad scan.bad_lines scan.stop goes_on
went_on_line scan what goes_on = goes_on

-- the same of lines
pub went_on : (scan : Scan) (lines : List (List ℕ))
    → is_stopped (scan_after scan lines).stop ≡ false → is_stopped scan.stop ≡ false
went_on scan [] goes_on = goes_on
went_on scan (line ∷ lines) goes_on =
    let what : LineKind = line_of scan (head line) in
    went_on_line scan what (went_on (passed scan what) lines goes_on)

-- A run over the lines of a file after its header.

-- whether a value has an offset, if it has one as it is to have it
has_is : (has_offset : Bool) (found : Found) → has_as has_offset found ≡ true
    → is_some found.offset ≡ has_offset
has_is true found has = has
has_is false found has = not-true (is_some found.offset) has

-- values are to have an offset, or to have none, as the bounds have it
pub record AskFor (has_offset : Bool) (offsets : Offsets) : Type 0 where
  pub fit : (found : Found) → fits offsets found ≡ has_as has_offset found
  pub settle : (found : Found) → settled offsets found ≡ Offsets.Only (is_some found.offset)

-- offsets that are settled
pub asks : (offsets : Offsets) → is_settled offsets ≡ true → AskFor (has_offsets offsets) offsets
asks (Offsets.Only other) is = record { fit = λ found. refl; settle = λ found. refl }
asks (Offsets.AsBounds other) is = record { fit = λ found. refl; settle = λ found. refl }
asks offsets is = cc

-- and those after a value that fits
still_asks : (has_offset : Bool) (offsets : Offsets) (found : Found) → AskFor has_offset offsets
    → fits offsets found ≡ true → AskFor has_offset (settled offsets found)
still_asks has_offset offsets found asked fit =
    let has = has_is has_offset found (sym (asked.fit found) ∙ fit) in
    rw (asked.settle found, has) (asks (Offsets.Only has_offset) refl)

-- what is known of a run, but for what lines change, which is known of another
abbrev pub with_known : Scan → Scan → Scan
with_known scan now = record scan {
  number = now.number;
  offsets = now.offsets;
  stop = now.stop;
  first = now.first;
  bad = now.bad;
  reports = now.reports;
}

-- what is known in a run after what was known at its start
pub record Runs (start scan : Scan) : Type 0 where
  pub same : with_known start scan ≡ scan
  pub asked : AskFor (has_offsets start.offsets) scan.offsets
  pub came : awaits_header scan ≡ false

-- what is known after a line
runs_on : (start scan : Scan) (what : LineKind) → MayBe scan what → Runs start scan
    → Runs start (passed scan what)
unfolding passed
runs_on start scan (LineKind.Value found) may runs = record {
  same = ap (λ (now : Scan). with_known now (passed scan (LineKind.Value found))) runs.same;
  asked = still_asks (has_offsets start.offsets) scan.offsets found runs.asked may;
  came = header_came scan (LineKind.Value found) runs.came;
}
runs_on start scan what may runs = record {
  same = ap (λ (now : Scan). with_known now (passed scan what)) runs.same;
  asked = runs.asked;
  came = header_came scan what runs.came;
}

-- and after lines
pub runs_after : (start scan : Scan) (lines : List (List ℕ)) → Runs start scan
    → Runs start (scan_after scan lines)
runs_after start scan [] runs = runs
runs_after start scan (line ∷ lines) runs =
    let what : LineKind = line_of scan (head line) in
    runs_after start (passed scan what) lines
    (runs_on start scan what (line_of_may scan (head line)) runs)

-- A line that has a value.

-- lines whose first one has a value of which something is known
abbrev pub BeginsWith : Scan → (ℤ → Type 0) → List (List ℕ) → Type 0
BeginsWith start P [] = ⊥
BeginsWith start P (line ∷ others) = (instant : ℤ)
    × ((line_value start.reader (has_offsets start.offsets) line ≡ Some instant) × P instant)

-- what is read of a line that has a value
record Reads (has_offset : Bool) (reading : Reading) (instant : ℤ) : Type 0 where
  found : Found
  reads : reading ≡ Reading.Value found
  has : has_as has_offset found ≡ true
  same : found.instant ≡ instant

reads_value : (has_offset : Bool) (reading : Reading) (instant : ℤ)
    → value_in has_offset reading ≡ Some instant → Reads has_offset reading instant
reads_value has_offset (Reading.Value found) instant value =
    let parts = cond_some (has_as has_offset found) found.instant instant value in
    record { found = found; reads = refl; has = parts.0; same = parts.1 }
reads_value has_offset reading instant value = cc

-- such a line has a value to a run that goes on
value_line : (start scan : Scan) (line : List ℕ) (instant : ℤ)
    (value : Reads (has_offsets start.offsets) (read start.reader (head line)) instant)
    → Runs start scan → is_stopped scan.stop ≡ false
    → line_of scan (head line) ≡ LineKind.Value value.found
unfolding line_of
value_line start scan line instant value runs goes_on =
    let came : (scan.has_header && (scan.number == 0)) ≡ false = rw goes_on at runs.came in
    let fit = runs.asked.fit value.found ∙ value.has in
    rw (goes_on, came, ap (λ (now : Scan). now.reader) (sym runs.same), value.reads, fit) refl

-- and begins an entry
pub begins_entry : (prefix : Prefix) (start : Scan) (P : ℤ → Type 0) (scan : Scan)
    (lines : List (List ℕ)) → Runs start scan → is_stopped scan.stop ≡ false
    → BeginsWith start P lines → BeginsEntry P (marked prefix scan lines)
begins_entry prefix start P scan [] runs goes_on begins = absurd begins
begins_entry prefix start P scan (line ∷ lines) runs goes_on begins =
    let value = reads_value (has_offsets start.offsets) (read start.reader (head line)) begins.0
    begins.1.0 in
    let what : LineKind = LineKind.Value value.found in
    let others : List Marked = marked prefix (passed scan what) lines in
    rw (value_line start scan line begins.0 value runs goes_on) (record {
      entry = record {
        instant = value.found.instant;
        lines = mark prefix scan line what ∷ up_to_value others;
      };
      later = entries others;
      are = refl;
      none = refl;
      known = subst P (sym value.same) begins.1.1;
    })

-- What of a run does not change how later lines are printed.

-- a run without what it has counted, but for the number of the line, if that is asked for
abbrev cleared : Bool → Scan → Scan
cleared asked scan = record scan {
  has_header = false;
  number = if asked then scan.number else 0;
  first = record { has_value = false; has_entry = false; before = 0 };
  bad = 0;
  reports = [];
}

-- lines change the rest of a run by the rest of it alone
cleared-passed : (asked : Bool) (scan : Scan) (what : LineKind)
    → cleared asked (passed (cleared asked scan) what) ≡ cleared asked (passed scan what)
unfolding passed
cleared-passed true scan LineKind.Late = refl
cleared-passed false scan LineKind.Late = refl
cleared-passed asked scan what = refl

judged_cleared : (asked : Bool) (scan : Scan) (line : List ℕ) (reading : Reading)
    → judged (cleared asked scan) line reading ≡ judged scan line reading
judged_cleared asked scan line (Reading.Value found) = refl
judged_cleared asked scan line reading = refl

no_header : (stopped header : Bool) (one other : LineKind) → (not stopped && header) ≡ false
    → one ≡ other
    → (if stopped then LineKind.Late else one)
    ≡ (if stopped then LineKind.Late else if header then LineKind.Header else other)
no_header true header one other came same = refl
no_header false header one other came same = rw came same

-- what a line is does not depend on what was counted
line_cleared : (asked : Bool) (scan : Scan) (line : List ℕ) → awaits_header scan ≡ false
    → line_of (cleared asked scan) line ≡ line_of scan line
unfolding line_of
line_cleared asked scan line came =
    no_header (is_stopped scan.stop) (scan.has_header && (scan.number == 0)) _ _ came
    (judged_cleared asked scan line (read scan.reader line))

keeps_cleared : (asked : Bool) (scan : Scan) (what : LineKind)
    → keeps (cleared asked scan) what ≡ keeps scan what
keeps_cleared asked scan LineKind.Late = refl
keeps_cleared asked scan what = refl

numbered : (asked : Bool) (one other : ℕ) → (asked ≡ true → one ≡ other)
    → with_colon asked (decimal (one_more one)) ≡ with_colon asked (decimal (one_more other))
numbered true one other same = rw (same refl) refl
numbered false one other same = refl

-- a prefix depends on the number of the line only if that is asked for
prefix_same : (prefix : Prefix) (name : List ℕ) (one other : ℕ)
    → (prefix.has_number ≡ true → one ≡ other)
    → prefix_text prefix name (one_more one) ≡ prefix_text prefix name (one_more other)
unfolding prefix_text
prefix_same prefix name one other same = rw (numbered prefix.has_number one other same) refl

-- nor does how it is marked
mark_cleared : (prefix : Prefix) (scan : Scan) (line : List ℕ) (what : LineKind)
    → mark prefix (cleared prefix.has_number scan) line what ≡ mark prefix scan line what
mark_cleared prefix scan line what =
    let number : ℕ = if prefix.has_number then scan.number else 0 in
    let same = prefix_same prefix scan.name.now number scan.number (λ asked. rw asked refl) in
    rw (keeps_cleared prefix.has_number scan what, same) refl

-- nor how lines are
marked_cleared : (prefix : Prefix) (scan : Scan) (lines : List (List ℕ))
    → awaits_header scan ≡ false
    → marked prefix (cleared prefix.has_number scan) lines ≡ marked prefix scan lines
marked_cleared prefix scan [] came = refl
marked_cleared prefix scan (line ∷ lines) came =
    let plain : Scan = cleared prefix.has_number scan in
    let what : LineKind = line_of scan (head line) in
    let is = line_cleared prefix.has_number scan (head line) came in
    let plain_came = header_came plain what (and_right (not (is_stopped scan.stop)) false refl) in
    let later = sym (marked_cleared prefix (passed plain what) lines plain_came)
    ∙ ap (λ (now : Scan). marked prefix now lines) (cleared-passed prefix.has_number scan what)
    ∙ marked_cleared prefix (passed scan what) lines (header_came scan what came) in
    rw (is, mark_cleared prefix scan line what, later) refl

not_stopped : (stop : Stop) → is_stopped stop ≡ false → stop ≡ Stop.No
not_stopped Stop.No goes_on = refl
not_stopped stop goes_on = cc

-- two runs of one file after a line with a value
alike_found : (asked : Bool) (start now : Scan) (number : ℕ) (found : Found)
    → settled now.offsets found ≡ settled start.offsets found → now.stop ≡ start.stop
    → (asked ≡ true → now.number ≡ number)
    → cleared asked (passed (with_known start now) (LineKind.Value found))
    ≡ cleared asked (passed (record start { number = number }) (LineKind.Value found))
unfolding passed
alike_found true start now number found offsets stops same = rw (offsets, stops, same refl) refl
alike_found false start now number found offsets stops same = rw (offsets, stops) refl

-- a run that begins at a line with a value marks it, and the lines after it, as the run does that
-- has read all lines before it
pub marked_found : (prefix : Prefix) (start : Scan) (P : ℤ → Type 0) (number : ℕ) (now : Scan)
    (lines others : List (List ℕ)) → Runs start now
    → Runs start (record start { number = number })
    → is_stopped now.stop ≡ false → is_stopped start.stop ≡ false
    → (prefix.has_number ≡ true → now.number ≡ number) → BeginsWith start P (lines ++ others)
    → marked prefix now lines ≡ marked prefix (record start { number = number }) lines
marked_found prefix start P number now [] others runs begins goes_on went same begun = refl
marked_found prefix start P number now (line ∷ lines) others runs begins goes_on went same begun =
    let other : Scan = record start { number = number } in
    let value = reads_value (has_offsets start.offsets) (read start.reader (head line)) begun.0
    begun.1.0 in
    let what : LineKind = LineKind.Value value.found in
    let offsets = runs.asked.settle value.found ∙ sym (begins.asked.settle value.found) in
    let stops = not_stopped now.stop goes_on ∙ sym (not_stopped start.stop went) in
    let alike = rw runs.same at
    (alike_found prefix.has_number start now number value.found offsets stops same) in
    let later = sym (marked_cleared prefix (passed now what) lines (header_came now what runs.came))
    ∙ ap (λ (next : Scan). marked prefix next lines) alike
    ∙ marked_cleared prefix (passed other what) lines (header_came other what begins.came) in
    rw (
      value_line start now line begun.0 value runs goes_on,
      value_line start other line begun.0 value begins went,
      later,
      ap (λ (scan : Scan). scan.name.now) (sym runs.same),
      prefix_same prefix start.name.now now.number number same,
    ) refl
