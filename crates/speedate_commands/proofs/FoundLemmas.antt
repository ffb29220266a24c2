-- What `between` prints of the part of a file that it reads is what it prints of the whole file.
use Rattle.std.proofs.Common.{◌≡◌, ◌∙◌, ℕ, ℤ, ◌+◌, ◌-◌, ◌^◌, ◌<◌, ◌≤◌, Bool, true, false, List, [], ◌∷◌, ◌++◌, refl, ap, sym, subst, arith, append_assoc, append-nil, length, take, drop, min, slice_index, inl, inr, zero-add}
use Rattle.std.proofs.lemmas.Bool.{and_parts, cases_lt, le-ltb, lt-ltb, not-true, true≢false}
use Rattle.std.proofs.lemmas.Bool.Decides.{nat_tests}
use Rattle.std.proofs.lemmas.Int.{ints}
use Rattle.std.proofs.lemmas.List.{append_cancel_right, drop-drop, drop_all, drop_more, take-append-drop}
use Rattle.std.proofs.KnownBytes.{Appends-trans}
use Rattle.std.specs.Prelude.{◌&&◌, ◌==◌, ◌⊎◌, not, Option, Some, None, IfSome, Result, Ok, Err, OnOk, int_le, int_lt}
use Rattle.std.specs.Io.KnownBytes.{Appends}
use Rattle.speedate.specs.Ascii.{line_feed}
use Rattle.speedate.specs.Lines.{IsLineEnd, Pieces, complete_lines, last_line, lines}
use Rattle.speedate.specs.Lines.{unfinished_line}
use Rattle.speedate.proofs.LineLemmas.{pieces-append, pieces-from, pieces-line, unfinished-free}
use Rattle.speedate_stream.specs.Machine.{head, state_after}
use Rattle.speedate_stream.specs.Run.{Ends}
use Rattle.speedate_stream.specs.Watch.{one_more}
use Rattle.speedate_scan.specs.Reading.{part}
use Rattle.speedate_scan.specs.Scan.{has_offsets, is_stopped, line_of, passed}
use Rattle.speedate_scan.specs.Entries.{entries, marked}
use Rattle.speedate_commands.specs.Base.{LineKind, Prefix, Reader, Scan}
use Rattle.speedate_commands.specs.Between.{Between, Bounds, awaits_header, between_after}
use Rattle.speedate_commands.specs.Between.{between_lines, between_machine, entries_text, file_text}
use Rattle.speedate_commands.specs.Between.{is_begun, is_open}
use Rattle.speedate_commands.specs.InOrder.{AreInOrder, EndsAt, EndsBounded, EndsFirstLine}
use Rattle.speedate_commands.specs.InOrder.{EndsPart, HasNumbers, HasValueAt, IsInOrder, IsNumber}
use Rattle.speedate_commands.specs.InOrder.{PrintsFile, PrintsRest, StartsAt, bounded, is_searched}
use Rattle.speedate_commands.specs.InOrder.{known_part, moved, recounted, renumbered, scan_after}
use Rattle.speedate_commands.proofs.EntryLemmas.{between_prints, header_passed, line_is_header}
use Rattle.speedate_commands.proofs.EntryLemmas.{nothing}
use Rattle.speedate_commands.proofs.InOrderLemmas.{BeginsEntry, BeginsWith, Runs, asks}
use Rattle.speedate_commands.proofs.InOrderLemmas.{begins_entry, dropped_lines, marked-append}
use Rattle.speedate_commands.proofs.InOrderLemmas.{marked_found, runs_after, scan_after-append}
use Rattle.speedate_commands.proofs.InOrderLemmas.{skipped_lines, went_on}
use Rattle.speedate_commands.proofs.KindLemmas.{MayBe, line_of_may}
use Rattle.speedate_commands.proofs.SearchLemmas.{most, part-empty, part-grown, part-past}

-- A part of a file.

-- a run over a part of a text has read all of it, or has ended
pub ends-part : (before after : Between) (known unread old new : Option (List ℕ)) (from to : ℕ)
    → Ends between_machine before after (known_part known from to) unread old new
    → IfSome known (λ text. EndsPart before after old new (part text from to))
ends-part before after None unread old new from to ends = tt
ends-part before after (Some text) unread old new from to (inr stopped) = inl stopped.0
ends-part before after (Some text) None old new from to (inl prints) = absurd prints.consumed
ends-part before after (Some text) (Some rest) old new from to (inl prints) =
    let all = sym (rw (prints.ended, append-nil) at prints.consumed) in
    inr (
      rw all at prints.state,
      rw (all, between_prints before (lines (part text from to))) at prints.sent,
    )

-- Where a text is cut after a line feed, its lines are those of both parts.

-- what ends with a line feed has no unfinished line
unfinished-ended : (front : List ℕ) → unfinished_line (front ++ line_feed ∷ []) ≡ []
unfinished-ended front =
    ap (λ (all : Pieces). all.unfinished) (pieces-append front (line_feed ∷ [])
    ∙ ap (λ (all : Pieces). record {
      complete = complete_lines front ++ all.complete;
      unfinished = all.unfinished;
    }) (pieces-line (unfinished_line front) [] (unfinished-free front)))

-- a part that a line feed ends
part_ended : (text : List ℕ) (from place : ℕ) → from ≤ place → place < length text
    → slice_index text place ≡ line_feed → unfinished_line (part text from (place + 1)) ≡ []
part_ended text from place ordered within ends =
    rw (part-grown text from place 1 ordered, drop_more text place 0 within, ends)
    (unfinished-ended (part text from place))

-- a part up to a line with a value
part_before : (reader : Reader) (has_offset : Bool) (text : List ℕ) (from at : ℕ) (instant : ℤ)
    → HasValueAt reader has_offset text at instant → unfinished_line (part text from at) ≡ []
part_before reader has_offset text from at instant found = elim (cases_lt from at) [
  | inl less ↦
      let last : at - 1 + 1 ≡ at = omega (arith, less) in
      rw last at (part_ended text from (at - 1) (omega (arith, less))
      (omega (arith, found.some, found.ends.after, found.ends.within)) found.begins)
  | inr past ↦ ap unfinished_line (part-empty text from at (inr past))
]

lines_complete : (text : List ℕ) → unfinished_line text ≡ [] → lines text ≡ complete_lines text
lines_complete text ended = rw (ended, append-nil) refl

-- lines before what follows a line feed
lines-append : (front rest : List ℕ) → unfinished_line front ≡ []
    → lines (front ++ rest) ≡ lines front ++ lines rest
lines-append front rest ended =
    ap (λ (all : Pieces). all.complete ++ last_line all.unfinished) (pieces-append front rest)
    ∙ rw (ended, append-nil, append_assoc) refl

-- the lines from a place on, in two parts
splits : (text : List ℕ) (from at : ℕ) → from ≤ at → unfinished_line (part text from at) ≡ []
    → lines (drop from text) ≡ lines (part text from at) ++ lines (drop at text)
splits text from at ordered ended =
    let place : from + (at - from) ≡ at = omega (arith, ordered) in
    ap lines (sym (take-append-drop (at - from) (drop from text)))
    ∙ lines-append (part text from at) (drop (at - from) (drop from text)) ended
    ∙ ap (λ (l : List ℕ). lines (part text from at) ++ lines l)
    (drop-drop (at - from) from text ∙ ap (λ (n : ℕ). drop n text) place)

-- the first of the lines from a place on, and the others
lines_from : (text : List ℕ) (at end : ℕ) → IsLineEnd text at end
    → lines (drop at text) ≡ part text at end ∷ lines (drop (end + 1) text)
lines_from text at end found =
    ap (λ (all : Pieces). all.complete ++ last_line all.unfinished)
    (pieces-from text at at end (omega arith)
    (λ k after below same. absurd (omega (arith, after, below))) found)

-- the lines of a text from a line with a value on
begins_at : (start : Scan) (P : ℤ → Type 0) (text : List ℕ) (at : ℕ) (instant : ℤ)
    → HasValueAt start.reader (has_offsets start.offsets) text at instant → P instant
    → BeginsWith start P (lines (drop at text))
begins_at start P text at instant found known =
    rw (lines_from text at found.end found.ends) (instant, (found.value, known))

-- Numbers of lines.

-- each line of a run that goes on is counted
line_number : (scan : Scan) (what : LineKind) → MayBe scan what → is_stopped scan.stop ≡ false
    → (passed scan what).number ≡ one_more scan.number
unfolding passed
line_number scan LineKind.Late may goes_on = absurd (true≢false (sym may ∙ goes_on))
line_number scan what may goes_on = refl

number_after : (scan : Scan) (lines : List (List ℕ))
    → is_stopped (scan_after scan lines).stop ≡ false → scan.number < 2 ^ 64
    → (scan_after scan lines).number ≡ min (scan.number + length lines) most
number_after scan [] goes_on fits = omega (arith, fits)
number_after scan (line ∷ lines) goes_on fits =
    let what : LineKind = line_of scan (head line) in
    let one = line_number scan what (line_of_may scan (head line))
    (went_on scan (line ∷ lines) goes_on) in
    omega (arith, one, number_after (passed scan what) lines goes_on (omega (arith, one)))

-- after the header no smaller number of lines is known
more_came : (stopped header : Bool) (one other : ℕ)
    → (not stopped && (header && (one == 0))) ≡ false → one ≤ other
    → (not stopped && (header && (other == 0))) ≡ false
more_came stopped header one other came more = grind (arith, nat_tests)

-- What is printed of lines in order after the header.

module _ (bounds : Bounds) (prefix : Prefix) (start : Scan) where
  -- what is printed of lines, and that they are in order and the run goes on
  abbrev printed : Scan → List (List ℕ) → List ℕ
  printed scan lines = entries_text bounds (entries (marked prefix scan lines))

  abbrev Ordered : Scan → List (List ℕ) → Type 0
  Ordered scan lines = AreInOrder (entries (marked prefix scan lines))
      × (is_stopped (scan_after scan lines).stop ≡ false)

  -- lines before those that are read, and lines after them
  abbrev IsSkipped : List (List ℕ) → List (List ℕ) → Type 0
  IsSkipped skipped others = (skipped ≡ [])
      ⊎ BeginsWith start (λ (instant : ℤ). is_begun bounds.from instant ≡ false) others

  abbrev IsDropped : List (List ℕ) → Type 0
  IsDropped dropped = (dropped ≡ [])
      ⊎ BeginsWith start (λ (instant : ℤ). is_open bounds.to instant ≡ false) dropped

  -- lines that begin with such a value begin an entry after a run over others
  begins_later : (P : ℤ → Type 0) (scan : Scan) (some others : List (List ℕ)) → Runs start scan
      → is_stopped (scan_after (scan_after scan some) others).stop ≡ false
      → BeginsWith start P others → BeginsEntry P (marked prefix (scan_after scan some) others)
  begins_later P scan some others runs goes_on begins =
      begins_entry prefix start P (scan_after scan some) others (runs_after start scan some runs)
      (went_on (scan_after scan some) others goes_on) begins

  -- what is before the first bound is not printed
  skipped_printed : (skipped others : List (List ℕ)) → Runs start start
      → IsSkipped skipped others → Ordered start (skipped ++ others)
      → (printed start (skipped ++ others) ≡ printed (scan_after start skipped) others)
      × Ordered (scan_after start skipped) others
  skipped_printed skipped others runs (inl none) ordered = rw none (refl, rw none at ordered)
  skipped_printed skipped others runs (inr begins) ordered =
      let split = marked-append prefix start skipped others in
      let goes_on = rw (scan_after-append start skipped others) at ordered.1 in
      let later = skipped_lines bounds (marked prefix start skipped)
      (marked prefix (scan_after start skipped) others)
      (begins_later _ start skipped others runs goes_on begins) (rw split at ordered.0) in
      (rw split later.0, (later.1, goes_on))

  -- what is not before the second bound is not printed either
  dropped_printed : (scan : Scan) (lines dropped : List (List ℕ)) → Runs start scan
      → IsDropped dropped → Ordered scan (lines ++ dropped)
      → printed scan (lines ++ dropped) ≡ printed scan lines
  dropped_printed scan lines dropped runs (inl none) ordered = rw (none, append-nil lines) refl
  dropped_printed scan lines dropped runs (inr begins) ordered =
      let split = marked-append prefix scan lines dropped in
      let goes_on = rw (scan_after-append scan lines dropped) at ordered.1 in
      rw split (dropped_lines bounds (marked prefix scan lines)
      (marked prefix (scan_after scan lines) dropped)
      (begins_later _ scan lines dropped runs goes_on begins) (rw split at ordered.0))

  -- the run over the part prints of its lines what the run over the whole file prints of all
  middle_printed : (number : ℕ) (skipped middle dropped : List (List ℕ))
      → Runs start start → Runs start (record start { number = number })
      → IsSkipped skipped (middle ++ dropped) → IsDropped dropped
      → (skipped ≡ [] → number ≡ start.number)
      → (prefix.has_number ≡ true → (scan_after start skipped).number ≡ number)
      → Ordered start (skipped ++ (middle ++ dropped))
      → printed (record start { number = number }) middle
      ≡ printed start (skipped ++ (middle ++ dropped))
  middle_printed number skipped middle dropped runs begins skips drops none_same same ordered =
      let here : Scan = scan_after start skipped in
      let runs_here = runs_after start start skipped runs in
      let later = skipped_printed skipped (middle ++ dropped) runs skips ordered in
      let ends = dropped_printed here middle dropped runs_here drops later.1 in
      let went = went_on here (middle ++ dropped) later.1.1 in
      let alike : marked prefix here middle
      ≡ marked prefix (record start { number = number }) middle = elim skips [
        | inl none ↦ rw (none, none_same none) refl
        | inr begun ↦ marked_found prefix start _ number here middle dropped runs_here begins went
            (went_on start skipped went) same begun
      ] in
      rw (later.0, ends, alike) refl

-- What is printed of a file's lines after its header.

-- after the header
text_came : (between : Between) (lines : List (List ℕ)) → awaits_header between.scan ≡ false
    → file_text between lines ≡ between_lines between.bounds between.is_kept
    (marked between.prefix between.scan lines)
text_came between [] came = sym (nothing between.is_kept)
text_came between (line ∷ lines) came = rw came refl

-- if the entry before is not printed
text_plain : (between : Between) (lines : List (List ℕ)) → awaits_header between.scan ≡ false
    → between.is_kept ≡ false → file_text between lines
    ≡ entries_text between.bounds (entries (marked between.prefix between.scan lines))
text_plain between lines came kept = text_came between lines came ∙ rw kept refl

-- an instant before the first bound, and one that is not before the second
is_before : (bound : Option ℤ) (from instant : ℤ) → bound ≡ Some from
    → int_lt instant from ≡ true → is_begun bound instant ≡ false
is_before bound from instant is before =
    let late : int_le from instant ≡ false = grind (arith, ints) in
    rw (is, late) refl

is_after : (bound : Option ℤ) (to instant : ℤ) → bound ≡ Some to
    → int_le to instant ≡ true → is_open bound instant ≡ false
is_after bound to instant is after =
    let closed : int_lt instant to ≡ false = grind (arith, ints) in
    rw (is, closed) refl

module _ (between : Between) (text : List ℕ) (begin start end number : ℕ)
    (searched : is_searched between ≡ true) (came : awaits_header between.scan ≡ false)
    (short : length text < 2 ^ 64) (fits : between.scan.number < 2 ^ 64)
    (ordered : begin ≤ start) (starts : StartsAt between (Some text) begin start)
    (ends : EndsAt between (Some text) start end)
    (number_is : IsNumber between text begin start number) where
  abbrev skipped : List (List ℕ)
  skipped = lines (part text begin start)

  abbrev middle : List (List ℕ)
  middle = lines (part text start end)

  abbrev dropped : List (List ℕ)
  dropped = lines (drop end text)

  -- the part starts where a line begins, which may have a value before the first bound
  start_parts : (unfinished_line (part text begin start) ≡ [])
      × IsSkipped between.bounds between.prefix between.scan skipped (lines (drop start text))
  start_parts = elim starts [
    | inl same ↦
        let none = part-empty text begin start (inr (omega (arith, same))) in
        (ap unfinished_line none, inl (ap lines none))
    | inr (from, (is, (instant, (found, before)))) ↦ (
      part_before _ _ text begin start instant found,
      inr (begins_at between.scan (λ (value : ℤ). is_begun between.bounds.from value ≡ false) text
          start instant found (is_before _ from instant is before)),
    )
  ]

  -- it ends with the file, or before a line whose value is not before the second bound
  end_parts : (lines (drop start text) ≡ middle ++ dropped)
      × IsDropped between.bounds between.prefix between.scan dropped
  end_parts = elim ends [
    | inl whole ↦
        let past : length text ≤ end = omega (arith, whole, short) in
        let none = drop_all end text past in (
          rw (part-past text start end past, none, append-nil (lines (drop start text))) refl,
          inl (ap lines none),
        )
    | inr (later, (to, (is, (instant, (found, after))))) ↦ (
      splits text start end later (part_before _ _ text start end instant found),
      inr (begins_at between.scan (λ (value : ℤ). is_open between.bounds.to value ≡ false) text end
          instant found (is_after _ to instant is after)),
    )
  ]

  all_parts : lines (drop begin text) ≡ skipped ++ (middle ++ dropped)
  all_parts =
      splits text begin start ordered start_parts.0
      ∙ ap (λ (l : List (List ℕ)). skipped ++ l) end_parts.0

  -- the number is that of the lines before the part, if these are counted
  counted : length skipped ≡ length (complete_lines (part text begin start))
  counted = ap length (lines_complete (part text begin start) start_parts.0)

  more : between.scan.number ≤ number
  more = grind (arith, number_is, fits)

  none_number : skipped ≡ [] → number ≡ between.scan.number
  none_number none = grind (arith, number_is, counted, ap length none, fits)

  shown_number : is_stopped (scan_after between.scan skipped).stop ≡ false
      → between.prefix.has_number ≡ true → (scan_after between.scan skipped).number ≡ number
  shown_number goes_on shown =
      let after = number_after between.scan skipped goes_on fits in
      grind (arith, number_is, counted, after, shown)

  part_printed : IsInOrder between (lines (drop begin text))
      → file_text (record between { scan = record between.scan { number = number } }) middle
      ≡ file_text between (lines (drop begin text))
  part_printed in_order =
      let parts = and_parts _ _ searched in
      let kept = not-true between.is_kept parts.0 in
      let asked = asks between.scan.offsets (and_parts _ _ parts.1).0 in
      let came_there = more_came (is_stopped between.scan.stop) between.scan.has_header
      between.scan.number number came more in
      let there = rw all_parts at in_order in
      let goes_on = went_on (scan_after between.scan skipped) (middle ++ dropped)
      (rw (scan_after-append between.scan skipped (middle ++ dropped)) at there.goes_on) in
      text_plain (record between { scan = record between.scan { number = number } }) middle
      came_there kept
      ∙ middle_printed between.bounds between.prefix between.scan number skipped middle dropped
      (record { same = refl; asked = asked; came = came })
      (record { same = refl; asked = asked; came = came_there })
      (rw end_parts.0 at start_parts.1) end_parts.1 none_number (shown_number goes_on)
      (there.ordered, there.goes_on)
      ∙ sym (rw all_parts (text_plain between _ came kept))

-- lines that are counted, or passed over, do not end a run
recounted-stop : (before found : Between) (skipped : ℕ)
    → (recounted before found skipped).scan.stop ≡ found.scan.stop
recounted-stop before found skipped = grind arith

bounded-stop : (end : ℕ) (found : Between) → (bounded end found).scan.stop ≡ found.scan.stop
bounded-stop end found = grind arith

-- the lines before a part are counted; they are not if no report is new or numbers are printed
pub numbers-moved : (before found : Between) (known : Option (List ℕ)) (begin start skipped : ℕ)
    (scan : Scan) → before.scan.bad < found.scan.bad → found.prefix.has_number ≡ false
    → IfSome known (λ text.
    skipped ≡ min (0 + length (complete_lines (part text begin start))) (2 ^ 64 - 1))
    → scan ≡ renumbered found.scan skipped (moved 10 before.scan.bad skipped found.scan.reports)
    → IfSome known (λ text. HasNumbers before (record found { scan = scan }) text begin start)
numbers-moved before found None begin start skipped scan more none count is = tt
numbers-moved before found (Some text) begin start skipped scan more none count is =
    let all : skipped ≡ min (length (complete_lines (part text begin start))) (2 ^ 64 - 1) =
    rw zero-add at count in
    inr (found, rw (is, all, lt-ltb before.scan.bad found.scan.bad more, none) refl)

pub numbers-kept : (before found : Between) (known : Option (List ℕ)) (begin start : ℕ)
    → (found.scan.bad ≤ before.scan.bad) ⊎ (found.prefix.has_number ≡ true)
    → IfSome known (λ text. HasNumbers before found text begin start)
numbers-kept before found None begin start why = tt
numbers-kept before found (Some text) begin start (inl none) =
    inr (found, rw (le-ltb before.scan.bad found.scan.bad none) refl)
numbers-kept before found (Some text) begin start (inr shown) = inr (found, grind arith)

-- a run over the part that was found prints what a run over all lines prints
pub prints-rest : (before after : Between) (known old new : Option (List ℕ))
    (begin start end number : ℕ) → begin ≤ start → before.scan.number < 2 ^ 64
    → StartsAt before known begin start → EndsAt before known start end
    → IfSome known (λ text. IsNumber before text begin start number)
    → IfSome known (λ text. EndsBounded (record before {
      scan = record before.scan { number = number };
    }) after old new text begin start end)
    → awaits_header before.scan ≡ false
    → IfSome known (λ text. PrintsRest before after old new text (lines (drop begin text)))
prints-rest before after None old new begin start end number ordered fits starts ends number_is
    sent came =
    tt
prints-rest before after (Some text) old new begin start end number ordered fits starts ends
    number_is sent came = λ searched short goes_on in_order.
    let stop = ap (λ (b : Between). b.scan.stop) sent.2 ∙ bounded-stop end sent.0
    ∙ ap (λ (b : Between). b.scan.stop) sent.1.reports
    ∙ recounted-stop (record before { scan = record before.scan { number = number } })
    sent.1.found (min (length (complete_lines (part text begin start))) (2 ^ 64 - 1)) in
    elim sent.1.ended [
      | inl stopped ↦ absurd (true≢false (sym stopped ∙ ap is_stopped (sym stop) ∙ goes_on))
      | inr printed ↦ subst (Appends old new) (part_printed before text begin start end number
          searched came short fits ordered starts ends number_is in_order) printed.1
    ]

-- A file that is not searched.

-- a run over all bytes
pub whole-file : (before after : Between) (known old new : Option (List ℕ))
    → IfSome known (λ text. EndsPart before after old new (part text 0 most))
    → IfSome known (λ text. PrintsFile before after old new text)
whole-file before after None old new ends = tt
whole-file before after (Some text) old new ends = λ short goes_on in_order. elim ends [
  | inl stopped ↦ absurd (true≢false (sym stopped ∙ goes_on))
  | inr printed ↦ rw (part-past text 0 most (omega (arith, short))) at printed.1
]

pub whole-rest : (before after : Between) (known old new : Option (List ℕ))
    → IfSome known (λ text. EndsPart before after old new (part text 0 most))
    → IfSome known (λ text. PrintsRest before after old new text (lines text))
whole-rest before after None old new ends = tt
whole-rest before after (Some text) old new ends =
    λ searched. whole-file before after (Some text) old new ends

pub rest-file : (before after : Between) (known old new : Option (List ℕ))
    → is_searched before ≡ true
    → IfSome known (λ text. PrintsRest before after old new text (lines text))
    → IfSome known (λ text. PrintsFile before after old new text)
rest-file before after None old new searched rest = tt
rest-file before after (Some text) old new searched rest = rest searched

-- A file with a header.

-- the first line of a text, and the others
headed-lines : (text : List ℕ) (begin : ℕ) → EndsFirstLine text begin
    → lines text ≡ take (begin - 1) text ∷ lines (drop begin text)
headed-lines text begin first =
    let place : begin - 1 + 1 ≡ begin = omega (arith, first.0) in
    let none : begin - 1 - 0 ≡ begin - 1 = omega arith in
    lines_from text 0 (begin - 1) first.1 ∙ rw (none, place) refl

-- the part with the first line has no other
header-alone : (text : List ℕ) (begin : ℕ) → EndsFirstLine text begin
    → lines (part text 0 begin) ≡ take (begin - 1) text ∷ []
header-alone text begin first =
    let place : begin - 1 + 1 ≡ begin = omega (arith, first.0) in
    let ended = rw place at
    (part_ended text 0 (begin - 1) (omega arith) first.1.within first.1.ends) in
    append_cancel_right (lines (part text 0 begin)) (take (begin - 1) text ∷ [])
    (lines (drop begin text))
    (sym (splits text 0 begin (omega arith) ended) ∙ headed-lines text begin first)

header-searched : (before : Between)
    → is_searched (between_after before LineKind.Header) ≡ is_searched before
unfolding passed
header-searched before = refl

-- the lines after the header are in order
header-in_order : (before : Between) (line : List ℕ) (lines : List (List ℕ))
    → awaits_header before.scan ≡ true → IsInOrder before (line ∷ lines)
    → IsInOrder (between_after before LineKind.Header) lines
header-in_order before line lines awaited in_order =
    let is = line_is_header before.scan (head line) awaited in
    record {
      ordered = rw is at in_order.ordered;
      goes_on = subst (λ (what : LineKind).
          is_stopped (scan_after (passed before.scan what) lines).stop ≡ false) is in_order.goes_on;
    }

-- a run over the header, and then over the rest
pub headed-rest : {A E : Type 0} (before found after : Between)
    (known old halfway new : Option (List ℕ)) (result : Result A E) (begin : ℕ)
    → awaits_header before.scan ≡ true → IfSome known (λ text. EndsFirstLine text begin)
    → IfSome known (λ text. EndsPart before found old halfway (part text 0 begin))
    → is_stopped found.scan.stop ≡ false
    → (awaits_header found.scan ≡ false → OnOk result (IfSome known (λ text.
    PrintsRest found after halfway new text (lines (drop begin text)))))
    → OnOk result (IfSome known (λ text. PrintsRest before after old new text (lines text)))
headed-rest before found after known old halfway new (Err fault) begin awaited first ends went
    rest =
    tt
headed-rest before found after None old halfway new (Ok value) begin awaited first ends went rest =
    tt
headed-rest before found after (Some text) old halfway new (Ok value) begin awaited first ends went
    rest = λ searched short goes_on in_order. elim ends [
      | inl stopped ↦ absurd (true≢false (sym stopped ∙ went))
      | inr printed ↦
          let line : List ℕ = take (begin - 1) text in
          let others : List (List ℕ) = lines (drop begin text) in
          let next : Between = between_after before LineKind.Header in
          let alone = header-alone text begin first in
          let all = headed-lines text begin first in
          let is : found ≡ next = printed.0
          ∙ ap (λ (l : List (List ℕ)). state_after between_machine before l) alone
          ∙ ap (between_after before) (line_is_header before.scan (head line) awaited) in
          let came = header_passed before.scan in
          let sent_first = rw (alone, awaited, nothing before.is_kept, append-nil) at printed.1 in
          let later = subst (λ (now : Between). awaits_header now.scan ≡ false
          → PrintsRest now after halfway new text others) is rest in
          let sent_rest = later came (header-searched before ∙ searched) short goes_on
          (header-in_order before line others awaited (rw all at in_order)) in
          rw (all, awaited) (Appends-trans old halfway new _ _ sent_first
          (rw (text_came next others came) at sent_rest))
    ]
