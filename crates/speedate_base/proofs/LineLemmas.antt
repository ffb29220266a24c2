-- How the lines of a text are found from place to place, and from block to block.
use Rattle.std.proofs.Common.{rules, ◌≡◌, ◌≢◌, ◌∙◌, sym, subst, refl, ℕ, ◌+◌, ◌-◌, ◌<◌, ◌≤◌, Bool, List, [], ◌∷◌, ◌++◌, length, take, drop, get_or, append-nil, if◌then◌else◌, ◌==◌, arith, All}
use Rattle.std.proofs.lemmas.Bool.{cases_lt, eqb-false, ne_eqb}
use Rattle.std.proofs.lemmas.List.{take_rest, length-take, get_or-take, get_or-drop, take-append-drop, drop_more, drop-drop}
use Rattle.std.proofs.lemmas.List.Elements.{All-head, All-tail, All-nil, All-cons, All-from_get_or}
use Rattle.speedate_base.specs.Ascii.{HasNoControl, carriage_return, line_feed}
use Rattle.speedate_base.specs.Lines.{Pieces, pieces, onto_first, complete_lines, unfinished_line}
use Rattle.speedate_base.specs.Lines.{IsOneLine, IsLineEnd}

-- a byte that ends no line
abbrev pub EndsNoLine : ℕ → Type 0
EndsNoLine byte = byte ≢ line_feed

-- no line feed is in the text
abbrev pub IsFree : List ℕ → Type 0
IsFree text = All EndsNoLine text

-- a line put before the first piece
onto_first-nil : (lines : List (List ℕ)) (last : List ℕ)
    → onto_first [] lines last ≡ record { complete = lines; unfinished = last }
onto_first-nil lines last = search rules

onto_first-cons : (byte : ℕ) (front : List ℕ) (lines : List (List ℕ)) (last : List ℕ)
    → onto_first (byte ∷ []) (onto_first front lines last).complete
    (onto_first front lines last).unfinished
    ≡ onto_first (byte ∷ front) lines last
onto_first-cons byte front lines last = search rules

pub pieces-onto_first : (front more : List ℕ) → IsFree front
    → pieces (front ++ more) ≡ onto_first front (complete_lines more) (unfinished_line more)
pieces-onto_first [] more free = sym (onto_first-nil (complete_lines more) (unfinished_line more))
pieces-onto_first (byte ∷ bytes) more free =
    rw (
      ne_eqb byte line_feed (All-head EndsNoLine byte bytes free),
      pieces-onto_first bytes more (All-tail EndsNoLine byte bytes free),
    ) (onto_first-cons byte bytes (complete_lines more) (unfinished_line more))

-- a text without line feed is an unfinished line
pieces-free : (text : List ℕ) → IsFree text
    → pieces text ≡ record { complete = []; unfinished = text }
pieces-free text free = rw (append-nil text) at (pieces-onto_first text [] free)

-- the line that a line feed ends comes first
pub pieces-line : (line rest : List ℕ) → IsFree line
    → pieces (line ++ line_feed ∷ rest)
    ≡ record { complete = line ∷ complete_lines rest; unfinished = unfinished_line rest }
pieces-line line rest free =
    rw (append-nil line) at (pieces-onto_first line (line_feed ∷ rest) free)

-- a byte before pieces, which ends a line if it is a line feed
abbrev fed : Bool → ℕ → List (List ℕ) → List ℕ → Pieces
fed is_feed byte lines last =
    if is_feed then record { complete = [] ∷ lines; unfinished = last }
    else onto_first (byte ∷ []) lines last

-- what stands after the last line feed holds none
first-free : (byte : ℕ) (test : Bool) (lines : List (List ℕ)) (last : List ℕ)
    → (byte == line_feed) ≡ test → IsFree last
    → IsFree (fed test byte lines last).unfinished
first-free byte test lines last is free = search (rules, All-cons, eqb-false)

pub unfinished-free : (text : List ℕ) → IsFree (unfinished_line text)
unfinished-free [] = All-nil EndsNoLine
unfinished-free (byte ∷ bytes) = search (rules, first-free, unfinished-free bytes)

-- the pieces of a text after the pieces of what stands before it
abbrev after : List (List ℕ) → Pieces → Pieces
after lines rest = record { complete = lines ++ rest.complete; unfinished = rest.unfinished }

first-after : (byte : ℕ) (test : Bool) (lines : List (List ℕ)) (last more : List ℕ)
    → (byte == line_feed) ≡ test
    → fed test byte (lines ++ complete_lines (last ++ more)) (unfinished_line (last ++ more))
    ≡ after (fed test byte lines last).complete
    (pieces ((fed test byte lines last).unfinished ++ more))
first-after byte test lines last more is = search rules

-- a text that goes on: its complete lines stay, and its unfinished one goes on
pub pieces-append : (text more : List ℕ)
    → pieces (text ++ more) ≡ after (complete_lines text) (pieces (unfinished_line text ++ more))
pieces-append [] more = refl
pieces-append (byte ∷ bytes) more = search (rules, first-after, pieces-append bytes more)

-- a part of a text without line feed, by its places
pub part-free : (text : List ℕ) (from to : ℕ) → to ≤ length text → IsOneLine text from to
    → IsFree (take (to - from) (drop from text))
part-free text from to within one =
    let part = take (to - from) (drop from text) in
    let long : length part ≤ to - from = omega (arith, length-take (to - from) (drop from text)) in
    All-from_get_or EndsNoLine part 0 (λ k below same.
    let inside : k < to - from = omega arith in
    let of_rest = sym (get_or-take (to - from) (drop from text) k 0 inside) in
    let of_text = sym (get_or-drop from text k 0) in
    one (from + k) (omega arith) (omega arith) (of_text ∙ of_rest ∙ same))

-- one after the other
pub joined_one_line : (text : List ℕ) (start searched end : ℕ) → IsOneLine text start searched
    → IsOneLine text searched end → IsOneLine text start end
joined_one_line text start searched end first second k after before = search (rules, cases_lt)

-- the first line from a place on, where the next line feed is known
pub pieces-from : (text : List ℕ) (start searched end : ℕ) → start ≤ searched
    → IsOneLine text start searched → IsLineEnd text searched end
    → pieces (drop start text)
    ≡ record {
      complete = take (end - start) (drop start text) ∷ complete_lines (drop (end + 1) text);
      unfinished = unfinished_line (drop (end + 1) text);
    }
pieces-from text start searched end ordered one found =
    let size = end - start in
    let rest = drop start text in
    let one_line = joined_one_line text start searched end one found.first in
    let free = part-free text start end (omega (arith, found.within)) one_line in
    search (
      rules,
      pieces-line (take size rest) (drop (end + 1) text) free,
      take-append-drop size rest,
      drop-drop size start text,
      drop_more text end 0 found.within,
    )

-- where there is none, the rest is unfinished
pub pieces-rest : (text : List ℕ) (start searched : ℕ) → IsOneLine text start searched
    → IsOneLine text searched (length text)
    → pieces (drop start text) ≡ record { complete = []; unfinished = drop start text }
pieces-rest text start searched one none =
    let one_line = joined_one_line text start searched (length text) one none in
    let free = part-free text start (length text) (omega arith) one_line in
    pieces-free (drop start text) (subst IsFree (take_rest text start) free)

-- a front without control characters is one line, and ends with no carriage return
pub IsOneLine-printed : (text : List ℕ) (size : ℕ) → HasNoControl size text
    → IsOneLine text 0 size
IsOneLine-printed text size printed k after below same =
    absurd (omega (arith, printed k below, same))

pub no_return-printed : (text : List ℕ) (size : ℕ) → HasNoControl size text → 0 < size
    → get_or text (size - 1) 0 ≢ carriage_return
no_return-printed text size printed some same =
    absurd (omega (arith, some, printed (size - 1) (omega (arith, some)), same))
