-- Where a machine is after a text that goes on, from where it was before.
use Rattle.std.proofs.Common.{◌≡◌, ◌∙◌, ap, sym, subst, refl, inl, inr, ℕ, ◌<◌, Bool, true, false, List, [], ◌∷◌, ◌++◌, length, drop, get_or, min, append_assoc, append-nil, nat_lt, Option, Some, None, is_some, arith}
use Rattle.std.proofs.lemmas.Bool.{cases_lt, lt-ltb, le-ltb}
use Rattle.std.proofs.lemmas.List.{take_all, length-take, length-take-le, take-append-le, drop-append-le, length-append}
use Rattle.std.proofs.lemmas.List.Elements.{All-take, All-nil, All-get_or}
use Rattle.std.proofs.Math.ListN.{get_or-append}
use Rattle.std.proofs.Math.Bool.{and-false}
use Rattle.speedate_base.specs.Ascii.{line_feed}
use Rattle.speedate_base.specs.Lines.{Pieces, IsOneLine, onto_first, complete_lines, last_line}
use Rattle.speedate_base.specs.Lines.{lines, unfinished_line}
use Rattle.speedate_base.proofs.LineLemmas.{EndsNoLine, IsFree, pieces-append, pieces-onto_first}
use Rattle.speedate_base.proofs.LineLemmas.{unfinished-free}
use Rattle.speedate_stream.specs.Machine.{Machine, Position, after_pieces, head, in_line, is_passed}
use Rattle.speedate_stream.specs.Machine.{line_output, lines_output, longest_line, part_of, passed}
use Rattle.speedate_stream.specs.Machine.{position_after, position_from, printed_after, rest_of}
use Rattle.speedate_stream.specs.Machine.{after_ending, ending, state_after}
use Rattle.speedate_stream.proofs.MachineLemmas.{lines_output-append, state_after-append}

-- a line that is longer than a machine sees keeps its head
head-longer : (line more : List ℕ) → 4096 < length line → head (line ++ more) ≡ head line
head-longer line more long = take-append-le 4097 line more (omega arith)

head-kept : (line more : List ℕ) → 4096 < length line → head (head line ++ more) ≡ head line
head-kept line more long =
    let size = length-take-le 4097 line (omega arith) in
    take-append-le 4097 (head line) more (omega (arith, size))
    ∙ take_all 4097 (head line) (omega (arith, size))

-- what was printed before what was printed before
twice : {S : Type 0} (first second : List ℕ) (position : Position S)
    → printed_after first (printed_after second position) ≡ printed_after (first ++ second) position
twice first second position = simp append_assoc

-- complete lines, and then pieces
after_pieces-append : {S : Type 0} (m : Machine S) (state : S) (some others : List (List ℕ))
    (last : List ℕ) → after_pieces m state (some ++ others) last
    ≡ printed_after (lines_output m state some)
    (after_pieces m (state_after m state some) others last)
after_pieces-append m state some others last =
    rw (lines_output-append m state some others, state_after-append m state some others)
    (sym (twice (lines_output m state some) (lines_output m (state_after m state some) others)
    (in_line m (state_after m (state_after m state some) others) last
    (is_passed m (state_after m (state_after m state some) others) last))))

-- lines of a head after which the line itself is not printed

line-quiet : {S : Type 0} (m : Machine S) (state : S) (line seen : List ℕ) → head line ≡ seen
    → m.rest state seen ≡ None → line_output m state line ≡ m.text state seen
line-quiet m state line seen is none = rw (is, none) (append-nil (m.text state seen))

-- a machine prints a line as it comes
abbrev passing : {S : Type 0} → S → List ℕ → Position S
passing state printed = record { state = state; passes = true; kept = []; printed = printed }

-- a machine waits for the end of a line, of which a part is kept
abbrev waiting : {S : Type 0} → S → List ℕ → Position S
waiting state kept = record { state = state; passes = false; kept = kept; printed = [] }

in_line-quiet : {S : Type 0} (m : Machine S) (state : S) (line seen : List ℕ) → head line ≡ seen
    → m.rest state seen ≡ None → in_line m state line (is_passed m state line) ≡ waiting state seen
in_line-quiet m state line seen is none =
    rw (is, none, and-false (nat_lt longest_line (length line)))
    (ap (λ (front : List ℕ). waiting state front) is)

-- the position after pieces whose first line has this head, after which the line is not printed
abbrev quietly : {S : Type 0} → Machine S → S → List ℕ → List (List ℕ) → List ℕ → Position S
quietly m state seen [] last = waiting state seen
quietly m state seen (line ∷ lines) last =
    printed_after (m.text state seen) (after_pieces m (m.after state seen) lines last)

onto_first-quiet : {S : Type 0} (m : Machine S) (state : S) (front seen : List ℕ)
    (lines : List (List ℕ)) (last : List ℕ)
    → ((more : List ℕ) → head (front ++ more) ≡ seen) → m.rest state seen ≡ None
    → after_pieces m state (onto_first front lines last).complete
    (onto_first front lines last).unfinished
    ≡ quietly m state seen lines last
onto_first-quiet m state front seen [] last heads none =
    in_line-quiet m state (front ++ last) seen (heads last) none
onto_first-quiet m state front seen (line ∷ lines) last heads none =
    after_pieces-append m state ((front ++ line) ∷ []) lines last
    ∙ ap (λ (seen : List ℕ). printed_after (line_output m state (front ++ line) ++ [])
    (after_pieces m (m.after state seen) lines last)) (heads line)
    ∙ ap (λ (bytes : List ℕ). printed_after bytes (after_pieces m (m.after state seen) lines last))
    (append-nil _ ∙ line-quiet m state (front ++ line) seen (heads line) none)

-- of a line whose rest is not printed the head may stand for it
quiet-kept : {S : Type 0} (m : Machine S) (state : S) (line more : List ℕ) → IsFree line
    → 4096 < length line → m.rest state (head line) ≡ None
    → position_after m state (line ++ more) ≡ position_after m state (head line ++ more)
quiet-kept m state line more free long none =
    let lines = complete_lines more in
    let last = unfinished_line more in
    let seen = head line in
    let place = λ (all : Pieces). after_pieces m state all.complete all.unfinished in
    ap place (pieces-onto_first line more free)
    ∙ onto_first-quiet m state line seen lines last (λ next. head-longer line next long) none
    ∙ sym (onto_first-quiet m state seen seen lines last (λ next. head-kept line next long) none)
    ∙ sym (ap place (pieces-onto_first seen more (All-take EndsNoLine 4097 line free)))

-- a line that is printed as it comes

part-longer : (from : ℕ) (line more : List ℕ) → 4096 < length line
    → part_of (Some from) (line ++ more) ≡ part_of (Some from) line ++ more
part-longer from line more long =
    let whole = line ++ more in
    ap (λ (seen : List ℕ). drop (min from (length seen)) whole) (head-longer line more long)
    ∙ drop-append-le (min from (length (head line))) line more
    (omega (arith, length-take-le 4097 line (omega arith)))

-- the position after pieces whose first line is printed as it comes
passed-onto_first : {S : Type 0} (m : Machine S) (state : S) (from : ℕ) (line : List ℕ)
    (lines : List (List ℕ)) (last : List ℕ) → 4096 < length line
    → m.rest state (head line) ≡ Some from
    → after_pieces m state (onto_first line lines last).complete
    (onto_first line lines last).unfinished
    ≡ printed_after (m.text state (head line) ++ part_of (Some from) line)
    (passed m (m.after state (head line)) lines last)
passed-onto_first m state from line [] last long some =
    let seen = head line in
    let whole = line ++ last in
    let is = head-longer line last long in
    let longer : 4096 < length whole = omega (arith, length-append line last) in
    let is_some' = ap (λ (front : List ℕ). is_some (m.rest state front)) is ∙ ap is_some some in
    let passes : is_passed m state whole ≡ true = rw (lt-ltb 4096 (length whole) longer) is_some' in
    ap (λ (test : Bool). printed_after [] (in_line m state whole test)) passes
    ∙ ap (λ (front : List ℕ). passing (m.after state front)
    (m.text state front ++ part_of (m.rest state front) whole)) is
    ∙ ap (λ (rest : Option ℕ).
    passing (m.after state seen) (m.text state seen ++ part_of rest whole)) some
    ∙ ap (λ (bytes : List ℕ). passing (m.after state seen) bytes)
    (ap (λ (bytes : List ℕ). m.text state seen ++ bytes) (part-longer from line last long)
    ∙ sym (append_assoc (m.text state seen) (part_of (Some from) line) last))
passed-onto_first m state from line (first ∷ lines) last long some =
    let seen = head line in
    let whole = line ++ first in
    let part = part_of (Some from) line in
    let text = m.text state seen in
    let is = head-longer line first long in
    let others = λ (front : List ℕ). after_pieces m (m.after state front) lines last in
    let shown = λ (front : List ℕ). m.text state front ++ rest_of (m.rest state front) whole in
    let printed = ap shown is
    ∙ ap (λ (rest : Option ℕ). text ++ rest_of rest whole) some
    ∙ ap (λ (bytes : List ℕ). text ++ (bytes ++ line_feed ∷ [])) (part-longer from line first long)
    ∙ ap (λ (bytes : List ℕ). text ++ bytes) (append_assoc part first (line_feed ∷ []))
    ∙ sym (append_assoc text part (first ++ line_feed ∷ [])) in
    after_pieces-append m state (whole ∷ []) lines last
    ∙ ap (λ (front : List ℕ). printed_after (line_output m state whole ++ []) (others front)) is
    ∙ ap (λ (bytes : List ℕ). printed_after bytes (others seen)) (append-nil _ ∙ printed)
    ∙ sym (twice (text ++ part) (first ++ line_feed ∷ []) (others seen))

-- where a machine is in a line that goes on
abbrev GoesOn : {S : Type 0} → Machine S → S → List ℕ → List ℕ → Bool → Type 0
GoesOn m state line more test =
    position_after m state (line ++ more)
    ≡ printed_after (in_line m state line test).printed
    (position_from m (in_line m state line test).state (in_line m state line test).passes
    ((in_line m state line test).kept ++ more))

in_longer : {S : Type 0} (m : Machine S) (state : S) (line more : List ℕ) (rest : Option ℕ)
    → IsFree line → 4096 < length line → m.rest state (head line) ≡ rest
    → GoesOn m state line more (is_passed m state line)
in_longer m state line more None free long none =
    let not_passed : is_passed m state line ≡ false =
    rw none (and-false (nat_lt longest_line (length line))) in
    subst (GoesOn m state line more) (sym not_passed) (quiet-kept m state line more free long none)
in_longer m state line more (Some from) free long some =
    let passes : is_passed m state line ≡ true =
    rw (lt-ltb 4096 (length line) long) (ap is_some some) in
    let lines = complete_lines more in
    let last = unfinished_line more in
    let text = m.text state (head line) in
    let after = m.after state (head line) in
    let goes = ap (λ (all : Pieces). after_pieces m state all.complete all.unfinished)
    (pieces-onto_first line more free)
    ∙ passed-onto_first m state from line lines last long some
    ∙ ap (λ (rest : Option ℕ).
    printed_after (text ++ part_of rest line) (passed m after lines last)) (sym some) in
    subst (GoesOn m state line more) (sym passes) goes

in_line-more : {S : Type 0} (m : Machine S) (state : S) (line more : List ℕ) → IsFree line
    → GoesOn m state line more (is_passed m state line)
in_line-more m state line more free = elim (cases_lt 4096 (length line)) [
  | inl long ↦ in_longer m state line more (m.rest state (head line)) free long refl
  | inr short ↦
      let not_passed : is_passed m state line ≡ false = rw (le-ltb 4096 (length line) short) refl in
      subst (GoesOn m state line more) (sym not_passed)
      (ap (λ (front : List ℕ). position_after m state (front ++ more))
      (sym (take_all 4097 line (omega arith))))
]

-- the position after a text that goes on
pub position-more : {S : Type 0} (m : Machine S) (state : S) (text more : List ℕ)
    → position_after m state (text ++ more)
    ≡ printed_after (position_after m state text).printed
    (position_from m (position_after m state text).state (position_after m state text).passes
    ((position_after m state text).kept ++ more))
position-more m state text more =
    let complete = complete_lines text in
    let line = unfinished_line text in
    let last = state_after m state complete in
    let here = in_line m last line (is_passed m last line) in
    let place = λ (all : Pieces). after_pieces m state all.complete all.unfinished in
    let printed = lines_output m state complete in
    ap place (pieces-append text more)
    ∙ after_pieces-append m state complete (complete_lines (line ++ more))
    (unfinished_line (line ++ more))
    ∙ ap (λ position. printed_after printed position)
    (in_line-more m last line more (unfinished-free text))
    ∙ twice printed here.printed (position_from m here.state here.passes (here.kept ++ more))

-- the same, where the machine, the flag and the text are those of a block
pub position-block : {S : Type 0} (m : Machine S) (state now : S) (passes : Bool)
    (text more block : List ℕ) → now ≡ (position_after m state text).state
    → passes ≡ (position_after m state text).passes
    → block ≡ (position_after m state text).kept ++ more
    → position_after m state (text ++ more)
    ≡ printed_after (position_after m state text).printed (position_from m now passes block)
position-block m state now passes text more block is goes joined =
    rw (is, goes, joined) (position-more m state text more)

-- what is kept of a line holds no line feed

in_line-free : {S : Type 0} (m : Machine S) (state : S) (line : List ℕ) (test : Bool) → IsFree line
    → IsFree (in_line m state line test).kept
in_line-free m state line true free = All-nil EndsNoLine
in_line-free m state line false free = All-take EndsNoLine 4097 line free

pub IsOneLine-kept : {S : Type 0} (m : Machine S) (state : S) (text front more block : List ℕ)
    (n : ℕ) → front ≡ (position_after m state text).kept → n ≡ length front
    → block ≡ front ++ more → IsOneLine block 0 n
IsOneLine-kept m state text front more block n cut long joined k after below same =
    let inside : k < length front = omega (arith, long) in
    let last = state_after m state (complete_lines text) in
    let line = unfinished_line text in
    let kept_free = in_line-free m last line (is_passed m last line) (unfinished-free text) in
    let free = subst IsFree (sym cut) kept_free in
    let of_front = sym (get_or-append front more 0 k inside) in
    let of_block = ap (λ (bytes : List ℕ). get_or bytes k 0) (sym joined) in
    All-get_or EndsNoLine front k 0 inside free (of_front ∙ of_block ∙ same)

-- at the end of a text

head-head : (line : List ℕ) → head (head line) ≡ head line
head-head line = take_all 4097 (head line) (omega (arith, length-take 4097 line))

-- what is printed for the last line, and the state after it, from where a machine is within it
abbrev EndsLine : {S : Type 0} → Machine S → S → List ℕ → Bool → Type 0
EndsLine m state line test =
    (lines_output m state (last_line line)
    ≡ (in_line m state line test).printed
    ++ ending m (in_line m state line test).state (in_line m state line test).passes
    (in_line m state line test).kept)
    × (state_after m state (last_line line)
    ≡ after_ending m (in_line m state line test).state (in_line m state line test).passes
    (in_line m state line test).kept)

-- the end of a line of which a part is kept
ends_kept : {S : Type 0} (m : Machine S) (state : S) (byte : ℕ) (bytes : List ℕ)
    → line_output m state (byte ∷ bytes) ≡ line_output m state (head (byte ∷ bytes))
    → EndsLine m state (byte ∷ bytes) false
ends_kept m state byte bytes same = (
  ap (λ (printed : List ℕ). printed ++ []) same,
  ap (m.after state) (sym (head-head (byte ∷ bytes))),
)

ends_longer : {S : Type 0} (m : Machine S) (state : S) (byte : ℕ) (bytes : List ℕ) (rest : Option ℕ)
    → 4096 < length (byte ∷ bytes) → m.rest state (head (byte ∷ bytes)) ≡ rest
    → EndsLine m state (byte ∷ bytes) (is_passed m state (byte ∷ bytes))
ends_longer m state byte bytes None long none =
    let line = byte ∷ bytes in
    let not_passed : is_passed m state line ≡ false =
    rw none (and-false (nat_lt longest_line (length line))) in
    let same = line-quiet m state line (head line) refl none
    ∙ sym (line-quiet m state (head line) (head line) (head-head line) none) in
    subst (EndsLine m state line) (sym not_passed) (ends_kept m state byte bytes same)
ends_longer m state byte bytes (Some from) long some =
    let line = byte ∷ bytes in
    let text = m.text state (head line) in
    let passes : is_passed m state line ≡ true =
    rw (lt-ltb 4096 (length line) long) (ap is_some some) in
    let printed = append-nil (line_output m state line)
    ∙ ap (λ (rest : Option ℕ). text ++ rest_of rest line) some
    ∙ sym (append_assoc text (part_of (Some from) line) (line_feed ∷ []))
    ∙ ap (λ (rest : Option ℕ). (text ++ part_of rest line) ++ line_feed ∷ []) (sym some) in
    subst (EndsLine m state line) (sym passes) (printed, refl)

ends_line : {S : Type 0} (m : Machine S) (state : S) (line : List ℕ)
    → EndsLine m state line (is_passed m state line)
ends_line m state [] = (refl, refl)
ends_line m state (byte ∷ bytes) = elim (cases_lt 4096 (length (byte ∷ bytes))) [
  | inl long ↦
      ends_longer m state byte bytes (m.rest state (head (byte ∷ bytes))) long refl
  | inr short ↦
      let line = byte ∷ bytes in
      let not_passed : is_passed m state line ≡ false = rw (le-ltb 4096 (length line) short) refl in
      let same = ap (line_output m state) (sym (take_all 4097 line (omega arith))) in
      subst (EndsLine m state line) (sym not_passed) (ends_kept m state byte bytes same)
]

-- what is printed for all lines of a text
pub lines_output-ended : {S : Type 0} (m : Machine S) (state now : S) (passes : Bool)
    (text kept : List ℕ) → now ≡ (position_after m state text).state
    → passes ≡ (position_after m state text).passes → kept ≡ (position_after m state text).kept
    → lines_output m state (lines text)
    ≡ (position_after m state text).printed ++ ending m now passes kept
lines_output-ended m state now passes text kept is goes cut =
    let complete = complete_lines text in
    let line = unfinished_line text in
    let last = state_after m state complete in
    let here = in_line m last line (is_passed m last line) in
    rw (is, goes, cut)
    (lines_output-append m state complete (last_line line)
    ∙ ap (λ (bytes : List ℕ). lines_output m state complete ++ bytes) ((ends_line m last line).0)
    ∙ sym (append_assoc (lines_output m state complete) here.printed
    (ending m here.state here.passes here.kept)))

pub state_after-ended : {S : Type 0} (m : Machine S) (state now : S) (passes : Bool)
    (text kept : List ℕ) → now ≡ (position_after m state text).state
    → passes ≡ (position_after m state text).passes → kept ≡ (position_after m state text).kept
    → state_after m state (lines text) ≡ after_ending m now passes kept
state_after-ended m state now passes text kept is goes cut =
    let complete = complete_lines text in
    let line = unfinished_line text in
    rw (is, goes, cut)
    (state_after-append m state complete (last_line line)
    ∙ (ends_line m (state_after m state complete) line).1)
