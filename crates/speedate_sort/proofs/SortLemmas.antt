-- Lines at places of a text, and lines added one by one.
use Rattle.std.proofs.Common.{◌≡◌, ◌∙◌, ap, sym, refl, ℕ, ℤ, ◌+◌, ◌-◌, ◌<◌, ◌≤◌, true, false, List, [], ◌∷◌, ◌++◌, length, take, drop, get_or, slice_index, All, arith, append_assoc, append-nil, map, Option, Some, Result, Ok, Err, is_err, OnOk, OnErr, rules}
use Rattle.std.proofs.lemmas.Bool.{false≢true, true≢false}
use Rattle.std.proofs.lemmas.List.{drop-append-le, take-append-le, length-drop, length-append, get_or-drop, drop_more, map-append, take-append-drop, take_all, take_more, take_rest, drop_all}
use Rattle.std.proofs.lemmas.List.Elements.{All-head, All-tail}
use Rattle.std.proofs.lemmas.Option.{cond_some}
use Rattle.speedate.specs.Ascii.{colon, line_feed}
use Rattle.speedate.specs.Lines.{complete_lines, last_line, lines, unfinished_line}
use Rattle.std.proofs.Math.Bool.{or-false}
use Rattle.std.proofs.Math.Seq.{drop-append_seam}
use Rattle.speedate_stream.specs.Machine.{head}
use Rattle.speedate_stream.specs.Run.{AppendsBut, OnlyWrites}
use Rattle.speedate_stream.specs.Watch.{Watch}
use Rattle.speedate_stream.proofs.SentLemmas.{OnlyWrites-then}
use Rattle.speedate_scan.specs.Print.{prefix_text, shown_name}
use Rattle.speedate_scan.specs.Scan.{keeps, line_of}
use Rattle.speedate_sort.specs.Base.{LineKind}
use Rattle.speedate_sort.specs.Sort.{Adds, IsPlaced, Keyed, Keys, Place, UnlessMemory, Unread}
use Rattle.speedate_sort.specs.Sort.{bare_lines, file_lines, in_order, instant_after, is_earlier}
use Rattle.speedate_sort.specs.Sort.{is_earlier_line, key_after, key_of, keys_after, line_at}
use Rattle.speedate_sort.specs.Sort.{lines_at, name_text, part, prefixed, sorted_text, texts}
use Rattle.speedate_sort.proofs.OrderLemmas.{map-in_order}

-- a part of a text stays where more stands after it
pub part-grown : (text more : List ℕ) (from to : ℕ) → from ≤ to → to ≤ length text
    → part (text ++ more) from to ≡ part text from to
part-grown text more from to ordered within =
    ap (take (to - from)) (drop-append-le from text more (omega (arith, ordered, within)))
    ∙ take-append-le (to - from) (drop from text) more
    (omega (arith, ordered, within, length-drop from text))

-- lines at places stay too
pub lines_at-grown : (text more : List ℕ) (places : List Place) → All (IsPlaced text) places
    → lines_at (text ++ more) places ≡ lines_at text places
lines_at-grown text more [] within = refl
lines_at-grown text more (place ∷ places) within =
    let first = All-head (IsPlaced text) place places within in
    rw (
      part-grown text more place.from place.to first.0 first.1,
      lines_at-grown text more places (All-tail (IsPlaced text) place places within),
    ) refl

-- a line and the line feed after it
pub part-ended : (text : List ℕ) (from end : ℕ) → from ≤ end → end < length text
    → slice_index text end ≡ line_feed
    → part text from (end + 1) ≡ part text from end ++ line_feed ∷ []
part-ended text from end ordered inside ends =
    let size : end + 1 - from ≡ end - from + 1 = omega (arith, ordered) in
    let short : end - from < length (drop from text) =
    omega (arith, ordered, inside, length-drop from text) in
    let place : from + (end - from) ≡ end = omega (arith, ordered) in
    rw (
      size,
      take_more (drop from text) (end - from) 0 short,
      get_or-drop from text (end - from) 0,
      place,
      ends,
    ) refl

-- one line of a file is added
pub one-line : (keys : Keys) (line : List ℕ) (found : ℤ) → key_of keys line ≡ Some found
    → bare_lines keys (line ∷ []) ≡ record { instant = found; text = line ++ line_feed ∷ [] } ∷ []
unfolding prefix_text
one-line keys line found is =
    let what : LineKind = line_of keys.scan (head line) in
    let kept = cond_some (keeps keys.scan what) (instant_after keys.instant what) found is in
    rw (kept.0, kept.1) refl

-- lines, and then others
pub bare_lines-append : (keys : Keys) (lines others : List (List ℕ))
    → bare_lines keys (lines ++ others)
    ≡ bare_lines keys lines ++ bare_lines (keys_after keys lines) others
bare_lines-append keys [] others = refl
bare_lines-append keys (line ∷ lines) others =
    simp (bare_lines-append (key_after keys line) lines others, append_assoc)

-- what is known after lines, and then others
pub keys_after-append : (keys : Keys) (lines others : List (List ℕ))
    → keys_after keys (lines ++ others) ≡ keys_after (keys_after keys lines) others
keys_after-append keys [] others = refl
keys_after-append keys (line ∷ lines) others = keys_after-append (key_after keys line) lines others

-- a last line is a line unless it is empty
pub last_line-some : (line : List ℕ) → 0 < length line → last_line line ≡ line ∷ []
last_line-some [] some = absurd (omega (arith, some))
last_line-some (byte ∷ bytes) some = refl

-- the last line of a text, to which a line feed was added
pub lines-ended : (text new : List ℕ) (from start end : ℕ) → new ≡ text ++ line_feed ∷ []
    → end ≡ length text → start < end → drop start text ≡ unfinished_line (drop from text)
    → lines (drop from text) ≡ complete_lines (drop from text) ++ part new start end ∷ []
lines-ended text new from start end fed long some rest =
    let same : part new start end ≡ drop start text =
    ap (λ (bytes : List ℕ). part bytes start end) fed
    ∙ part-grown text (line_feed ∷ []) start end (omega (arith, some)) (omega (arith, long))
    ∙ ap (λ (n : ℕ). take (n - start) (drop start text)) long
    ∙ take_rest text start in
    rw (
      same,
      ← rest,
      last_line-some (drop start text)
          (omega (arith, some, long, length-drop start text)),
    ) refl

-- of what is left of a list the first element, and then the others
pub left-step : {X Y : Type 0} (one : X → List Y) (all : List X → List Y)
    → ((x : X) (xs : List X) → all (x ∷ xs) ≡ one x ++ all xs) → (so_far : List Y)
    (xs : List X) (index : ℕ) (default : X) → index < length xs
    → so_far ++ all (drop index xs)
    ≡ (so_far ++ one (get_or xs index default)) ++ all (drop (index + 1) xs)
left-step one all cons so_far xs index default below =
    rw (drop_more xs index default below, cons, append_assoc) refl

-- nothing is left
pub left-end : {X Y : Type 0} (all : List X → List Y) → all [] ≡ [] → (so_far : List Y)
    (xs : List X) (index : ℕ) → length xs ≤ index → so_far ++ all (drop index xs) ≡ so_far
left-end all nil so_far xs index past = rw (drop_all index xs past, nil) (append-nil so_far)

-- a text was read after another, in which places are
pub lines_at-read : (old new : List ℕ) (places : List Place) → take (length old) new ≡ old
    → All (IsPlaced old) places → lines_at new places ≡ lines_at old places
lines_at-read old new places begins within =
    rw (← take-append-drop (length old) new, begins)
    (lines_at-grown old (drop (length old) new) places within)

-- what holds unless memory ran out, and it did not
pub unread_part : {P : Type 0} (unread : Unread) → unread ≡ Unread.Read
    → UnlessMemory (Err unread) P → P
unread_part Unread.Read is holds = holds
unread_part Unread.Memory is holds = cc

-- what holds at `Ok`, and what holds at an error
pub ok_part : {T E P : Type 0} (result : Result T E) → is_err result ≡ false → OnOk result P → P
ok_part (Ok value) is holds = holds
ok_part (Err fault) is holds = absurd (true≢false is)

pub err_part : {T E P : Type 0} (result : Result T E) → is_err result ≡ true → OnErr result P → P
err_part (Ok value) is holds = absurd (false≢true is)
err_part (Err fault) is holds = holds

-- the lines at places that were brought into order are the lines in order
pub texts-in_order : {T E : Type 0} (result : Result T E) (text shown : List ℕ)
    (places sorted printed : List Place) (lines : List Keyed) → false ≡ is_err result
    → OnOk result (sorted ≡ in_order is_earlier places) → shown ≡ text → printed ≡ sorted
    → lines_at text places ≡ lines → texts (lines_at shown printed) ≡ sorted_text lines
texts-in_order result text shown places sorted printed lines none ordered same read seen =
    rw (same, read, ok_part result (sym none) ordered, ← seen)
    (ap texts (map-in_order (line_at text) is_earlier_line places))

-- a call had to write what was left after others, none of which failed
pub OnlyWrites-after : {W A E : Type 0} {contents : W → Option (List ℕ)} {a b c : Watch W}
    {left bytes : List ℕ} {result : Result A E}
    → b.failed ≡ a.failed → b.flushes ≡ a.flushes
    → AppendsBut left (contents a.inner) (contents b.inner) bytes
    → OnlyWrites contents b c result [] left → OnlyWrites contents a c result [] bytes
OnlyWrites-after {result = result} failed flushes sent call =
    OnlyWrites-then {A = Unit {0}} {E = Unit {0}} {value = tt} result
    (search (rules, or-false)) call

-- Lines after what is printed before them.

-- a line was added at the end of a text
pub line-added : (old more : List ℕ) (places : List Place) (instant : ℤ) (from to : ℕ)
    → All (IsPlaced old) places → from ≡ length old → to ≡ length (old ++ more)
    → lines_at (old ++ more) (places ++ record { instant = instant; from = from; to = to } ∷ [])
    ≡ lines_at old places ++ record { instant = instant; text = more } ∷ []
line-added old more places instant from to within begins ends =
    let place : Place = record { instant = instant; from = from; to = to } in
    let size : to - from ≡ length more = omega (arith, begins, ends, length-append old more) in
    let bytes : part (old ++ more) from to ≡ more =
    rw (size, begins, drop-append_seam old more) (take_all (length more) more (omega arith)) in
    rw (
      map-append (line_at (old ++ more)) places (place ∷ []),
      lines_at-grown old more places within,
      bytes,
    ) refl

-- nothing is printed before them
pub bare-prefixed : (lines : List Keyed) → map (prefixed []) lines ≡ lines
bare-prefixed [] = refl
bare-prefixed (line ∷ lines) = ap (λ (l : List Keyed). line ∷ l) (bare-prefixed lines)

-- a line after what waits, with the name of its file
pub named-line : (keys : Keys) (shown waiting line : List ℕ) → keys.has_name ≡ true
    → shown ≡ shown_name keys.scan.name.now
    → waiting ++ (name_text keys ++ line) ≡ (waiting ++ (shown ++ colon ∷ [])) ++ line
named-line keys shown waiting line asked is =
    rw (asked, is) (sym (append_assoc waiting (shown_name keys.scan.name.now ++ colon ∷ []) line))

-- lines without the name of their file are those of the file, if it is not asked for
bare-file : (keys : Keys) (lines : List (List ℕ)) → keys.has_name ≡ false
    → bare_lines keys lines ≡ file_lines keys lines
unfolding file_lines
bare-file keys lines none = rw none (sym (bare-prefixed (bare_lines keys lines)))

-- the same of lines that were added
pub adds-bare : {lines_of : List ℕ → List (List ℕ)} {before after : List Keyed} {old new : Keys}
    {a b : Option (List ℕ)} → old.has_name ≡ false
    → Adds bare_lines lines_of before after old new a b
    → Adds file_lines lines_of before after old new a b
adds-bare {lines_of = lines_of} {before = before} {old = old} none adds = record {
  text = adds.text;
  consumed = adds.consumed;
  keys = adds.keys;
  lines = adds.lines
      ∙ ap (λ (l : List Keyed). before ++ l) (bare-file old (lines_of adds.text) none);
}
