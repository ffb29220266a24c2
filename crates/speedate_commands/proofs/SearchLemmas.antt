-- Parts of a text, as they are read from it block by block.
use Rattle.std.proofs.Common.{◌≡◌, ◌∙◌, ℕ, ℤ, ◌+◌, ◌-◌, ◌^◌, ◌<◌, ◌≤◌, Bool, List, [], ◌∷◌, ◌++◌, refl, ap, sym, arith, length, take, take-add, drop, min, slice_index}
use Rattle.std.proofs.lemmas.List.{take-take, drop-take, drop-drop, length-take, length-drop, length-append, take-append-le, take_all, nil_from_length, get_or-take, get_or-drop}
use Rattle.std.specs.Prelude.{◌⊎◌, Option, Some, None, IfSome}
use Rattle.std.specs.Option.{SomeIff}
use Rattle.std.specs.Io.KnownBytes.{Consumes, IsAtEnd}
use Rattle.speedate.specs.Lines.{IsLineEnd, IsOneLine, Pieces, complete_lines, lines, onto_first}
use Rattle.speedate.specs.Lines.{unfinished_line}
use Rattle.speedate.proofs.LineLemmas.{joined_one_line, pieces-append, pieces-onto_first}
use Rattle.speedate.proofs.LineLemmas.{unfinished-free}
use Rattle.speedate_scan.specs.Reading.{part}
use Rattle.speedate_commands.specs.Base.{Reader}
use Rattle.speedate_commands.specs.InOrder.{EndsFirstLine, HasValueAt, known_part}

-- Parts.

pub part-joined : (text : List ℕ) (from count to : ℕ)
    → to - from ≡ count + (to - (from + count))
    → part text from to ≡ take count (drop from text) ++ part text (from + count) to
part-joined text from count to sizes =
    rw sizes (rw (take-add count (to - (from + count)) (drop from text), drop-drop) refl)

pub part-grown : (text : List ℕ) (from at count : ℕ) → from ≤ at
    → part text from (at + count) ≡ part text from at ++ take count (drop at text)
part-grown text from at count ordered =
    let place : from + (at - from) ≡ at = omega (arith, ordered) in
    let size : at + count - at ≡ count = omega arith in
    rw (place, size) at (part-joined text from (at - from) (at + count) (omega (arith, ordered)))

pub part-empty : (text : List ℕ) (from to : ℕ) → (length text ≤ from) ⊎ (to ≤ from)
    → part text from to ≡ []
part-empty text from to none =
    let size = length-take (to - from) (drop from text) in
    nil_from_length (part text from to) (grind (arith, none, size, length-drop from text))

pub part-past : (text : List ℕ) (from to : ℕ) → length text ≤ to
    → part text from to ≡ drop from text
part-past text from to past =
    take_all (to - from) (drop from text) (omega (arith, past, length-drop from text))

-- What a read at a place gives.

abbrev pub IsRead : Option (List ℕ) → ℕ → ℕ → List ℕ → Type 0
IsRead known at count buffer = IfSome known (λ text.
    (take count buffer ≡ take count (drop at text))
    × (count ≡ 0 → 0 < length buffer → length text ≤ at))

pub window-read : (known : Option (List ℕ)) (at end count size : ℕ) (buffer rest : List ℕ)
    → IsRead known at count buffer → count ≤ length buffer
    → length buffer ≡ min size (end - at) → (length (buffer ++ rest) ≡ size)
    → Consumes (known_part known at end) (known_part known (at + count) end)
    (take count (buffer ++ rest))
    × (count ≡ 0 → 0 < length (buffer ++ rest) → IsAtEnd (known_part known (at + count) end))
window-read None at end count size buffer rest is_read within room whole = (tt, λ none some. tt)
window-read (Some text) at end count size buffer rest is_read within room whole = (
  part-joined text at count end (omega (arith, within, room))
      ∙ ap (λ (l : List ℕ). l ++ part text (at + count) end)
      (sym is_read.0 ∙ sym (take-append-le count buffer rest within)),
  λ none some. part-empty text (at + count) end (grind (arith, is_read.1)),
)

-- A block of a text.

module _ (text block : List ℕ) (place n : ℕ) (is : block ≡ take n (drop place text)) where
  within_text : (k : ℕ) → k < length block → place + k < length text
  within_text k inside =
      omega (arith, inside, ap length is, length-take n (drop place text), length-drop place text)

  byte_of : (k : ℕ) → k < length block → slice_index block k ≡ slice_index text (place + k)
  byte_of k inside =
      ap (λ (l : List ℕ). slice_index l k) is
      ∙ get_or-take n (drop place text) k 0
      (omega (arith, inside, ap length is, length-take n (drop place text)))
      ∙ get_or-drop place text k 0

  -- the same by the place in the text
  byte_at : (k : ℕ) → place ≤ k → k < place + length block
      → slice_index block (k - place) ≡ slice_index text k
  byte_at k from inside =
      let same : place + (k - place) ≡ k = omega (arith, from) in
      rw same at (byte_of (k - place) (omega (arith, from, inside)))

  one_line_moved : (from end : ℕ) → IsOneLine block from end → end ≤ length block
      → IsOneLine text (place + from) (place + end)
  one_line_moved from end one within k after below same =
      one (k - place) (omega (arith, after)) (omega (arith, after, below))
      (byte_at k (omega (arith, after)) (omega (arith, below, within)) ∙ same)

  line_moved : (from end : ℕ) → IsLineEnd block from end
      → IsLineEnd text (place + from) (place + end)
  line_moved from end found = record {
    after = omega (arith, found.after);
    within = within_text end found.within;
    ends = sym (byte_of end found.within) ∙ found.ends;
    first = one_line_moved from end found.first (omega (arith, found.within));
  }

  part_moved : (from to : ℕ) → from ≤ to → to ≤ length block
      → part block from to ≡ part text (place + from) (place + to)
  part_moved from to ordered inside =
      let short : to ≤ n = omega (arith, inside, ap length is, length-take n (drop place text)) in
      let split : from + (n - from) ≡ n = omega (arith, ordered, short) in
      let size : place + to - (place + from) ≡ to - from = omega arith in
      let rest = rw split at (drop-take from (n - from) (drop place text)) in
      let fewer : to - from ≤ n - from = omega (arith, short) in
      rw (is, size, rest, drop-drop, take-take (to - from) (n - from) _ fewer) refl

  -- a line with a value of the block is one of the text
  value_moved : (reader : Reader) (has_offset : Bool) (at : ℕ) (instant : ℤ)
      → HasValueAt reader has_offset block at instant
      → HasValueAt reader has_offset text (place + at) instant
  value_moved reader has_offset at instant found =
      let before : place + at - 1 ≡ place + (at - 1) = omega (arith, found.some) in
      let inside : at - 1 < length block = omega (arith, found.ends.after, found.ends.within) in
      record {
        some = omega (arith, found.some);
        begins = rw before (sym (byte_of (at - 1) inside) ∙ found.begins);
        end = place + found.end;
        ends = line_moved at found.end found.ends;
        value = rw (part_moved at found.end found.ends.after (omega (arith, found.ends.within)))
            at found.value;
      }

  -- no line feed before the block and none in its front
  one_longer : (end : ℕ) → IsOneLine text 0 place → IsOneLine block 0 end → end ≤ length block
      → IsOneLine text 0 (place + end)
  one_longer end before here within =
      joined_one_line text 0 place (place + end) before (λ k after below same.
      one_line_moved 0 end here within k (omega (arith, after)) below same)

pub known-value-at : (known : Option (List ℕ)) (reader : Reader) (has_offset : Bool)
    (block : List ℕ) (place count at found : ℕ) (instant value : ℤ) → IsRead known place count block
    → HasValueAt reader has_offset (take count block) at instant
    → found ≡ place + at → value ≡ instant
    → IfSome known (λ text. HasValueAt reader has_offset text found value)
known-value-at None reader has_offset block place count at found instant value is_read line is
    same =
    tt
known-value-at (Some text) reader has_offset block place count at found instant value is_read line
    is same =
    rw (is, same)
    (value_moved text (take count block) place count is_read.0 reader has_offset at instant line)

-- The first line of a text.

abbrev pub HasNoFeed : Option (List ℕ) → ℕ → Type 0
HasNoFeed known at = IfSome known (λ text. IsOneLine text 0 at)

pub no_feed-more : (known : Option (List ℕ)) (block : List ℕ) (at count next : ℕ)
    → IsRead known at count block → HasNoFeed known at
    → IsOneLine (take count block) 0 (length (take count block))
    → length (take count block) ≡ count → next ≤ at + count → HasNoFeed known next
no_feed-more None block at count next is_read before here size less = tt
no_feed-more (Some text) block at count next is_read before here size less = λ k after below same.
    one_longer text (take count block) at count is_read.0 (length (take count block)) before here
    (omega arith) k after (omega (arith, size, less, below)) same

pub feed-checked : (known : Option (List ℕ)) (block : List ℕ) (at count end : ℕ)
    (result : Option ℕ) (P : Type 0) → IsRead known at count block → HasNoFeed known at
    → IsLineEnd (take count block) 0 end → SomeIff result P (at + (end + 1))
    → IfSome result (λ place. IfSome known (λ text. EndsFirstLine text place))
feed-checked known block at count end None P is_read before found is = tt
feed-checked None block at count end (Some place) P is_read before found is = tt
feed-checked (Some text) block at count end (Some place) P is_read before found is =
    let moved = line_moved text (take count block) at count is_read.0 0 end found in
    let last : place - 1 ≡ at + end = omega (arith, is.1) in (
      omega (arith, is.1),
      rw last (record {
        after = omega arith;
        within = moved.within;
        ends = moved.ends;
        first = one_longer text (take count block) at count is_read.0 end before found.first
            (omega (arith, found.within));
      }),
    )

-- How many line feeds a text has.

onto_first-length : (front : List ℕ) (lines : List (List ℕ)) (last : List ℕ)
    → length (onto_first front lines last).complete ≡ length lines
onto_first-length front [] last = refl
onto_first-length front (line ∷ lines) last = refl

pub feeds-append : (text more : List ℕ)
    → length (complete_lines (text ++ more))
    ≡ length (complete_lines text) + length (complete_lines more)
feeds-append text more =
    let last = unfinished_line text in
    ap (λ (all : Pieces). length all.complete) (pieces-append text more)
    ∙ length-append (complete_lines text) (complete_lines (last ++ more))
    ∙ ap (λ (n : ℕ). length (complete_lines text) + n)
    (ap (λ (all : Pieces). length all.complete)
    (pieces-onto_first last more (unfinished-free text))
    ∙ onto_first-length last (complete_lines more) (unfinished_line more))

abbrev pub most : ℕ
most = 2 ^ 64 - 1

abbrev pub IsCounted : Option (List ℕ) → ℕ → ℕ → ℕ → ℕ → Type 0
IsCounted known number from at counted = IfSome known (λ text.
    counted ≡ min (number + length (complete_lines (part text from at))) most)

pub counted-more : (known : Option (List ℕ)) (block : List ℕ) (number from at count counted : ℕ)
    → from ≤ at → IsRead known at count block → IsCounted known number from at counted
    → IsCounted known number from (at + count)
    (min (counted + length (complete_lines (take count block))) most)
counted-more None block number from at count counted ordered is_read is = tt
counted-more (Some text) block number from at count counted ordered is_read is =
    let grown = ap (λ (l : List ℕ). length (complete_lines l))
    (part-grown text from at count ordered
    ∙ ap (λ (l : List ℕ). part text from at ++ l) (sym is_read.0))
    ∙ feeds-append (part text from at) (take count block) in
    omega (arith, grown, is)
