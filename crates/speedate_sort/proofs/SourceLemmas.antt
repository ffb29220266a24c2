-- The lines of a source, read one by one.
use Rattle.std.proofs.Common.{◌≡◌, ◌∙◌, ◌⊎◌, ap, sym, refl, ℕ, ℤ, zero, suc, ◌-◌, ◌<◌, true, false, ◌==◌, List, [], ◌∷◌, ◌++◌, length, take, get_or, arith, append_assoc, append-nil, inl, inr, set, Option, Some, None, is_some, IfSome, IsSome}
use Rattle.std.specs.Prelude.{int_lt, slice_get}
use Rattle.std.specs.Io.KnownBytes.{Appends, Keeps}
use Rattle.std.specs.Io.BufRead.{DropsThrough, drop_through, take_through}
use Rattle.std.proofs.lemmas.Bool.{cases_Bool, eqb-false, eqb-true, false≢true}
use Rattle.std.proofs.lemmas.Bool.Decides.{nat_tests}
use Rattle.std.proofs.lemmas.Int.{ints}
use Rattle.std.proofs.lemmas.List.{get_or-map, length_push, map-set}
use Rattle.std.proofs.lemmas.List.Elements.{All-cons, All-get_or, All-nil, All-weaker}
use Rattle.std.proofs.Math.Seq.{get_or-append_seam, take-append_seam}
use Rattle.speedate.specs.Ascii.{line_feed}
use Rattle.speedate.specs.Lines.{Pieces, last_line, lines}
use Rattle.speedate.proofs.LineLemmas.{EndsNoLine, IsFree, pieces-line, pieces-onto_first}
use Rattle.speedate_stream.specs.Machine.{head}
use Rattle.speedate_stream.specs.Run.{AppendsBut}
use Rattle.speedate_stream.proofs.SentLemmas.{Appends-all, AppendsBut-kept, AppendsBut-more}
use Rattle.speedate_stream.proofs.SentLemmas.{AppendsBut-same, AppendsBut-trans}
use Rattle.speedate_scan.specs.Print.{prefix_text}
use Rattle.speedate_scan.specs.Scan.{keeps, line_of, passed}
use Rattle.speedate_sort.specs.Base.{LineKind, Offsets, Scan}
use Rattle.speedate_sort.specs.Sort.{Keyed, Keys, file_lines, instant_after, key_after, key_of}
use Rattle.speedate_sort.specs.Sort.{name_text}
use Rattle.speedate_sort.specs.Merge.{AreAlike, AreAllInOrder, AreKnown, Best, Halt, Halted}
use Rattle.speedate_sort.specs.Merge.{IsAlike, IsHalt, IsHaltIn, Merges, MergesUpTo, Moves}
use Rattle.speedate_sort.specs.Merge.{ReadsLine, Source, StaysSettled, bare, best_of, bytes_of}
use Rattle.speedate_sort.specs.Merge.{due, ended, files_left, instant_of, instants, line_and}
use Rattle.speedate_sort.specs.Merge.{lines_left, merged_text, number_after, number_of}
use Rattle.speedate_sort.specs.Merge.{printed_first, unread, with_feed}
use Rattle.speedate_sort.proofs.SortLemmas.{last_line-some}
use Rattle.speedate_sort.proofs.MergeLemmas.{Begins, IsFirst, IsNotBefore, best-is_first, due-all}
use Rattle.speedate_sort.proofs.MergeLemmas.{due-line, due-none, due-step, file-first}
use Rattle.speedate_sort.proofs.MergeLemmas.{first_instant, first_instants}

-- The first line of a text.

-- a line feed ends the first line of a text, or the text does
abbrev Splits : List ℕ → List ℕ → Type 0
Splits text line = IsFree line
    × (((take_through line_feed text ≡ line ++ line_feed ∷ [])
    × (text ≡ line ++ line_feed ∷ drop_through line_feed text))
    ⊎ ((take_through line_feed text ≡ line) × (text ≡ line)
    × (drop_through line_feed text ≡ [])))

-- each text has such a line
splits : (text : List ℕ) → (line : List ℕ) × Splits text line
splits [] = ([], (All-nil EndsNoLine, inr (refl, refl, refl)))
splits (byte ∷ bytes) = elim (cases_Bool (byte == line_feed)) [
  | inl is ↦
      let same : byte ≡ line_feed = eqb-true byte line_feed is in
      ([], (All-nil EndsNoLine, inl (rw (is, same) refl, rw (is, same) refl)))
  | inr is ↦
      let rest = splits bytes in
      let free = All-cons EndsNoLine byte rest.0 (eqb-false byte line_feed is) rest.1.0 in
      (byte ∷ rest.0, (free, grind (arith, is, rest.1.1)))
]

-- a line that a line feed ends, and one that holds none
last_place : (line : List ℕ) → length (line ++ line_feed ∷ []) - 1 ≡ length line
last_place line = omega (arith, length_push line line_feed)

ended-fed : (line : List ℕ) → ended (line ++ line_feed ∷ []) ≡ line ++ line_feed ∷ []
ended-fed line = grind (arith, nat_tests, last_place line, get_or-append_seam line line_feed [] 0)

ended-free : (line : List ℕ) → 0 < length line → IsFree line
    → ended line ≡ line ++ line_feed ∷ []
ended-free line some free =
    let last = All-get_or EndsNoLine line (length line - 1) 0 (omega (arith, some)) free in
    grind (arith, nat_tests)

bare-fed : (line : List ℕ) → bare (line ++ line_feed ∷ []) ≡ line ∷ []
bare-fed [] = refl
bare-fed (byte ∷ bytes) =
    rw (last_place (byte ∷ bytes))
    (ap (λ (l : List ℕ). l ∷ []) (take-append_seam (byte ∷ bytes) (line_feed ∷ [])))

-- what is read of a text, with a line feed at its end, is its first line
read-first : (text : List ℕ) → 0 < length (take_through line_feed text)
    → (line : List ℕ) × (ended (take_through line_feed text) ≡ line ++ line_feed ∷ [])
    × (lines text ≡ line ∷ lines (drop_through line_feed text))
read-first text some =
    let all = λ (found : Pieces). found.complete ++ last_line found.unfinished in
    let first = splits text in
    let line = first.0 in
    let free = first.1.0 in (
      line,
      elim first.1.1 [
        | inl fed ↦ ap ended fed.0 ∙ ended-fed line
        | inr whole ↦ ap ended whole.0 ∙ ended-free line (rw whole.0 at some) free
      ],
      elim first.1.1 [
        | inl fed ↦
            ap lines fed.1 ∙ ap all (pieces-line line (drop_through line_feed text) free)
        | inr whole ↦
            rw whole.2
            (ap lines whole.1 ∙ ap all (rw (append-nil line) at (pieces-onto_first line [] free))
            ∙ last_line-some line (rw whole.0 at some))
      ],
    )

-- a line was read, and gets a line feed if it has none
pub reads-line : (before after : Option (List ℕ)) (line : List ℕ)
    → IfSome before (λ bytes. line ≡ take_through line_feed bytes)
    → DropsThrough before after line_feed → 0 < length line → IsSome before
    → ReadsLine before after (ended line)
reads-line None after line taken dropped some known = absurd (false≢true known)
reads-line (Some text) after line taken dropped some known =
    let first = read-first text (rw taken at some) in
    let is : ended line ≡ first.0 ++ line_feed ∷ [] = ap ended taken ∙ first.1 in
    let alone : bare (ended line) ≡ first.0 ∷ [] = ap bare is ∙ bare-fed first.0 in
    record {
      known = ap is_some dropped;
      feed = is ∙ sym (ap with_feed alone);
      lines = rw (dropped, alone) first.2;
      end = λ none.
          absurd (omega (arith, length_push first.0 line_feed, ap length (sym is ∙ none)));
    }

-- What a line is to the source.

-- a line does not change the name of its file
passed-name : (scan : Scan) (what : LineKind) → (passed scan what).name ≡ scan.name
unfolding passed
passed-name scan LineKind.Late = refl
passed-name scan other = refl

-- a line has a key if it is kept
keeps-key : (keys : Keys) (text : List ℕ)
    → keeps keys.scan (line_of keys.scan (head text)) ≡ is_some (key_of keys text)
keeps-key keys text = grind arith

-- a first line that is not left out, and one that is
file_lines-kept : (keys : Keys) (text : List ℕ) (others : List (List ℕ))
    → is_some (key_of keys text) ≡ true
    → file_lines keys (text ∷ others) ≡ record {
      instant = (key_after keys text).instant;
      text = name_text (key_after keys text) ++ (text ++ line_feed ∷ []);
    } ∷ file_lines (key_after keys text) others
unfolding file_lines prefix_text
file_lines-kept keys text others kept =
    rw (keeps-key keys text ∙ kept, passed-name keys.scan (line_of keys.scan (head text))) refl

file_lines-left : (keys : Keys) (text : List ℕ) (others : List (List ℕ))
    → is_some (key_of keys text) ≡ false
    → file_lines keys (text ∷ others) ≡ file_lines (key_after keys text) others
unfolding file_lines
file_lines-left keys text others left =
    rw (keeps-key keys text ∙ left, passed-name keys.scan (line_of keys.scan (head text))) refl

-- a line that is not left out
unread-kept : (before after : Option (List ℕ)) (keys : Keys) (line : List ℕ)
    → ReadsLine before after line → 0 < length line
    → is_some (key_of keys (take (length line - 1) line)) ≡ true
    → unread before keys ≡ lines_left after (key_after keys (take (length line - 1) line)) line
unread-kept before after keys [] reads some kept = absurd (omega (arith, some))
unread-kept before after keys (byte ∷ bytes) reads some kept =
    let text : List ℕ = take (length (byte ∷ bytes) - 1) (byte ∷ bytes) in
    let new : Keys = key_after keys text in
    ap (file_lines keys) reads.lines
    ∙ file_lines-kept keys text (lines (bytes_of after)) kept
    ∙ ap (λ (l : List ℕ). record { instant = new.instant; text = name_text new ++ l }
    ∷ unread after new) (sym reads.feed)

-- a line that is left out
pub unread-left : (before after : Option (List ℕ)) (keys : Keys) (line : List ℕ)
    → ReadsLine before after line → 0 < length line
    → is_some (key_of keys (take (length line - 1) line)) ≡ false
    → unread before keys ≡ unread after (key_after keys (take (length line - 1) line))
unread-left before after keys [] reads some left = absurd (omega (arith, some))
unread-left before after keys (byte ∷ bytes) reads some left =
    ap (file_lines keys) reads.lines
    ∙ file_lines-left keys (take (length (byte ∷ bytes) - 1) (byte ∷ bytes))
    (lines (bytes_of after)) left

-- by what a line is that is left out
same_if_left : (scan : Scan) (instant : ℤ) (number : ℕ) (what : LineKind)
    → keeps scan what ≡ false
    → (instant_after instant what ≡ instant) × (number_after scan number what ≡ number)
same_if_left scan instant number (LineKind.Value found) left = cc
same_if_left scan instant number other left = (refl, refl)

-- it changes neither the value of the entry nor the number of the last line that has one
pub left-same : (keys : Keys) (number : ℕ) (text : List ℕ) → is_some (key_of keys text) ≡ false
    → ((key_after keys text).instant ≡ keys.instant) × (number_of keys number text ≡ number)
left-same keys number text left =
    same_if_left keys.scan keys.instant number (line_of keys.scan (head text))
    (keeps-key keys text ∙ left)

-- a file without lines
no_lines : (keys : Keys) → file_lines keys [] ≡ []
unfolding file_lines
no_lines keys = refl

-- no line is left
pub moves-end : (first before after : Option (List ℕ)) (old keys : Keys) (line : List ℕ)
    → line ≡ [] → ReadsLine before after line → unread first old ≡ unread before keys
    → keys.instant ≡ old.instant → Moves first after old keys line
moves-end first before after old keys (byte ∷ bytes) is reads same instant = cc
moves-end first before after old keys [] is reads same instant = record {
  known = reads.known;
  lines = same ∙ ap (file_lines keys) (reads.lines ∙ ap lines (reads.end refl)) ∙ no_lines keys;
  order = rw instant (grind (arith, ints));
}

-- a line was read that is not left out
pub moves-line : (first before after : Option (List ℕ)) (old keys new : Keys) (line : List ℕ)
    → ReadsLine before after line → 0 < length line → unread first old ≡ unread before keys
    → keys.instant ≡ old.instant → new ≡ key_after keys (take (length line - 1) line)
    → is_some (key_of keys (take (length line - 1) line)) ≡ true
    → int_lt new.instant keys.instant ≡ false → Moves first after old new line
moves-line first before after old keys new line reads some same instant is kept order = record {
  known = reads.known;
  lines = rw is (same ∙ unread-kept before after keys line reads some kept);
  order = rw (← instant) order;
}

-- What is printed of sources.

module _ {R : Type 0} (remaining : R → Option (List ℕ)) where
  abbrev pub file_of : Source R → List Keyed
  file_of source = lines_left (remaining source.input) source.keys source.line.items

  -- the values of the lines that were read are those of the first lines
  first-file : (prefix : List ℕ) (instant : ℤ) (line : List ℕ) (others : List Keyed)
      → first_instant (line_and prefix instant line others) ≡ instant_of instant line
  first-file prefix instant [] others = refl
  first-file prefix instant (byte ∷ bytes) others = refl

  first-files : (sources : List (Source R))
      → first_instants (files_left remaining sources) ≡ instants sources
  first-files [] = refl
  first-files (source ∷ sources) =
      let first = first-file (name_text source.keys) source.keys.instant source.line.items
      (unread (remaining source.input) source.keys) in
      let others = first-files sources in
      cc

  -- no source has a line
  pub sources-none : (sources : List (Source R)) → best_of (instants sources) ≡ None
      → (due (files_left remaining sources) ≡ []) × AreAllInOrder (files_left remaining sources)
  sources-none sources is =
      due-none (files_left remaining sources) (ap best_of (first-files sources) ∙ is)

  -- the first line of a file, and the others, are those of its source
  file-parts : (x : Keyed) (xs : List Keyed) (prefix : List ℕ) (instant : ℤ) (line : List ℕ)
      (others : List Keyed) → x ∷ xs ≡ line_and prefix instant line others
      → (x.text ≡ prefix ++ line) × (x.instant ≡ instant) × (xs ≡ others)
  file-parts x xs prefix instant [] others is = cc
  file-parts x xs prefix instant (byte ∷ bytes) others is =
      let line : x ≡ record { instant = instant; text = prefix ++ byte ∷ bytes } = cc in
      (ap (λ (l : Keyed). l.text) line, ap (λ (l : Keyed). l.instant) line, cc)

  -- the line of the best source is the first of all, and those after it are left to be read
  sources-first : (sources : List (Source R)) (best : Best) (source : Source R)
      → best_of (instants sources) ≡ Some best → best.index < length sources
      → source ≡ get_or sources best.index source
      → (first : IsFirst best.index best.instant (files_left remaining sources))
      × ((first.line.text ≡ printed_first source) × (first.line.instant ≡ source.keys.instant)
      × (first.rest ≡ unread (remaining source.input) source.keys))
  sources-first sources best source is below at =
      let files : List (List Keyed) = files_left remaining sources in
      let first = best-is_first best files (ap best_of (first-files sources) ∙ is) in (
        first,
        file-parts first.line first.rest (name_text source.keys) source.keys.instant
            source.line.items (unread (remaining source.input) source.keys)
            (sym (file-first best.index best.instant files first)
            ∙ get_or-map file_of sources best.index source [] below ∙ ap file_of (sym at)),
      )

  -- the line of the best source is printed first, after what waits
  pub sources-line : (sources : List (Source R)) (best : Best) (source : Source R)
      → best_of (instants sources) ≡ Some best → best.index < length sources
      → source ≡ get_or sources best.index source → (waiting : List ℕ)
      → (own : List Keyed)
      × (waiting ++ due (files_left remaining sources)
      ≡ (waiting ++ printed_first source)
      ++ due (set (files_left remaining sources) best.index own))
  sources-line sources best source is below at waiting =
      let first = sources-first sources best source is below at in
      let line = due-line best.index best.instant (files_left remaining sources) first.0 in
      (line.0, rw (append_assoc, ← first.1.0) (ap (λ (l : List ℕ). waiting ++ l) line.1))

  -- the line that was read next is not before the one that was printed
  begins-moves : (before : ℤ) (left : Option (List ℕ)) (keys : Keys) (line : List ℕ)
      → int_lt keys.instant before ≡ false → Begins (IsNotBefore before) (lines_left left keys line)
  begins-moves before left keys [] order = tt
  begins-moves before left keys (byte ∷ bytes) order = order

  -- the line of the best source is printed, and the next one of it is read
  pub sources-step : (sources : List (Source R)) (best : Best) (source new : Source R)
      → best_of (instants sources) ≡ Some best → best.index < length sources
      → source ≡ get_or sources best.index source → (waiting : List ℕ)
      → Moves (remaining source.input) (remaining new.input) source.keys new.keys new.line.items
      → (waiting ++ due (files_left remaining sources)
      ≡ (waiting ++ printed_first source)
      ++ due (files_left remaining (set sources best.index new)))
      × (AreAllInOrder (files_left remaining (set sources best.index new))
      → AreAllInOrder (files_left remaining sources))
  sources-step sources best source new is below at waiting moves =
      let first = sources-first sources best source is below at in
      let begins = begins-moves source.keys.instant (remaining new.input) new.keys
      new.line.items moves.order in
      let step = due-step best.index best.instant (files_left remaining sources) first.0
      (file_of new) (first.1.2 ∙ moves.lines) (rw first.1.1 begins) in
      rw (append_assoc, ← first.1.0, map-set file_of sources best.index new)
      (ap (λ (l : List ℕ). waiting ++ l) step.0, step.1)

  -- another file in the place of that of a source
  pub sources-set : (sources : List (Source R)) (index : ℕ) (new : Source R) (own : List Keyed)
      → set (files_left remaining sources) index own
      ≡ set (files_left remaining (set sources index new)) index own
  sources-set [] index new own = refl
  sources-set (source ∷ sources) zero new own = refl
  sources-set (source ∷ sources) (suc index) new own =
      ap (λ (l : List (List Keyed)). file_of source ∷ l) (sources-set sources index new own)

  -- the bytes of a source are known
  pub source-known : (sources : List (Source R)) (index : ℕ) (source : Source R)
      → index < length sources → source ≡ get_or sources index source
      → AreKnown remaining sources → IsSome (remaining source.input)
  source-known sources index source below at known =
      rw (sym at) at (All-get_or (λ (s : Source R). IsSome (remaining s.input)) sources index
      source below known)

-- what is settled stays so
pub settled-trans : (first second third : Offsets) → StaysSettled first second
    → StaysSettled second third → StaysSettled first third
settled-trans (Offsets.Only has) second third one two = rw one at two
settled-trans other second third one two = tt

-- values that are as it is settled stay so
settled-alike : (first second own : Offsets) → StaysSettled first second → IsAlike first own
    → IsAlike second own
settled-alike first second (Offsets.Only own) one two = rw two at one
settled-alike first second other one two = tt

pub settled-alike_all : {R : Type 0} (first second : Offsets) (sources : List (Source R))
    → StaysSettled first second → AreAlike first sources → AreAlike second sources
settled-alike_all first second sources one two =
    All-weaker (λ s. IsAlike first s.keys.scan.offsets) (λ s. IsAlike second s.keys.scan.offsets)
    (λ s. settled-alike first second s.keys.scan.offsets one) sources two

-- the source that is named
named-at : {R : Type 0} (sources : List (Source R)) (index : ℕ) (new : Source R)
    → index < length sources → slice_get (set sources index new) index ≡ Some new
named-at [] index new below = absurd (omega (arith, below))
named-at (source ∷ sources) zero new below = refl
named-at (source ∷ sources) (suc index) new below =
    named-at sources index new (omega (arith, below))

-- it is one whose lines ended
pub halt-in : {R : Type 0} (offsets now : Offsets) (halt : Halt) (sources : List (Source R))
    (index : ℕ) (new : Source R) → index < length sources → StaysSettled offsets now
    → IsHalt now halt new
    → IsHaltIn offsets (record { index = index; halt = halt }) (set sources index new)
halt-in offsets now halt sources index new below settled halts = inr (record {
  source = new;
  named = named-at sources index new below;
  now = now;
  settled = settled;
  halt = halts;
})

-- The end of a merge.

-- what waited was written
pub merges-sent : {a b c d : Option (List ℕ)} {files now : List (List Keyed)}
    {waited waiting : List ℕ} {halted : Option Halted} → waited ≡ []
    → (merges : Merges files now a b waited waiting halted) → AppendsBut [] b c waiting → Keeps c d
    → AppendsBut merges.left a d (due files)
merges-sent none merges sent kept =
    rw none at
    (AppendsBut-kept (AppendsBut-trans merges.sent (AppendsBut-more merges.left sent)) kept)

-- the merge did not end before its inputs
pub merges-all : {a b c : Option (List ℕ)} (d : Option (List ℕ)) {files now : List (List Keyed)}
    {waited waiting : List ℕ} {halted : Option Halted} → halted ≡ None → waited ≡ []
    → (merges : Merges files now a b waited waiting halted) → AppendsBut [] b c waiting → Keeps c d
    → AreAllInOrder files × Appends a d (merged_text files)
merges-all d {files = files} is none merges sent kept =
    let all = merges.all (ap is_some is) in
    let written = merges-sent none merges sent kept in
    (all.1, rw (due-all files all.1) at (Appends-all (AppendsBut-same written all.0)))

-- a source ended the merge
pub merges-halfway : {a b c : Option (List ℕ)} (d : Option (List ℕ)) (Known : Type 0)
    {files now : List (List Keyed)} {waited waiting : List ℕ} (halted : Option Halted)
    → waited ≡ [] → (Known → Merges files now a b waited waiting halted)
    → AppendsBut [] b c waiting → Keeps c d
    → IfSome halted (λ halted. Known → MergesUpTo files now a d halted)
merges-halfway d Known None none merges sent kept = tt
merges-halfway d Known (Some halted) none merges sent kept = λ known. record {
  left = (merges known).left;
  sent = merges-sent none (merges known) sent kept;
  others = (merges known).others;
}
