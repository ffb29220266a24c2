-- Where a machine is after a text, piece by piece.
use Rattle.std.proofs.Common.{◌≡◌, ◌∙◌, ap, sym, refl, ℕ, ◌+◌, ◌-◌, true, List, [], ◌∷◌, ◌++◌, length, take, drop, append_assoc, arith}
use Rattle.std.proofs.lemmas.List.{take_more}
use Rattle.speedate_base.specs.Ascii.{line_feed}
use Rattle.speedate_base.specs.Lines.{complete_lines, unfinished_line, IsLineEnd, IsOneLine, Pieces}
use Rattle.speedate_base.proofs.LineLemmas.{pieces-from, pieces-rest}
use Rattle.speedate_stream.specs.Machine.{Machine, head, in_line, is_passed, passed}
use Rattle.speedate_stream.specs.Machine.{line_output, lines_output, position_after}
use Rattle.speedate_stream.specs.Machine.{position_from, printed_after, state_after}

-- a text without line feed, within a line that is printed as it comes, is printed
pub passed-rest : {S : Type 0} (m : Machine S) (state : S) (text : List ℕ)
    → IsOneLine text 0 (length text)
    → position_from m state true text
    ≡ record { state = state; passes = true; kept = []; printed = text }
passed-rest m state text free =
    ap (λ (all : Pieces). passed m state all.complete all.unfinished)
    (pieces-rest text 0 0 (λ k after before same. absurd (omega arith)) free)

-- up to the end of the line the text is printed, and the lines after it by themselves
take-line : (text : List ℕ) (end : ℕ) → IsLineEnd text 0 end
    → take (end - 0) (drop 0 text) ++ line_feed ∷ [] ≡ take (end + 1) text
take-line text end found =
    let place : end - 0 ≡ end = omega arith in
    rw place (ap (λ (byte : ℕ). take end text ++ byte ∷ []) (sym found.ends)
    ∙ sym (take_more text end 0 found.within))

pub passed-line : {S : Type 0} (m : Machine S) (state : S) (text : List ℕ) (end : ℕ)
    (others : List ℕ) → IsLineEnd text 0 end → others ≡ drop (end + 1) text
    → position_from m state true text
    ≡ printed_after (take (end + 1) text) (position_after m state others)
passed-line m state text end others found is =
    ap (λ (all : Pieces). passed m state all.complete all.unfinished)
    (pieces-from text 0 0 end (omega arith) (λ k after before same. absurd (omega arith)) found)
    ∙ ap (λ (line : List ℕ). printed_after line (position_after m state (drop (end + 1) text)))
    (take-line text end found)
    ∙ ap (λ (rest : List ℕ). printed_after (take (end + 1) text) (position_after m state rest))
    (sym is)

-- the position after a text, from the state after its complete lines and its unfinished line
pub position-pieces : {S : Type 0} (m : Machine S) (state last : S) (text rest : List ℕ)
    → last ≡ state_after m state (complete_lines text) → rest ≡ unfinished_line text
    → position_after m state text
    ≡ printed_after (lines_output m state (complete_lines text))
    (in_line m last rest (is_passed m last rest))
position-pieces m state last text rest is ends = rw (is, ends) refl

-- lines after lines

pub lines_output-append : {S : Type 0} (m : Machine S) (state : S) (some others : List (List ℕ))
    → lines_output m state (some ++ others)
    ≡ lines_output m state some ++ lines_output m (state_after m state some) others
lines_output-append m state [] others = refl
lines_output-append m state (line ∷ rest) others =
    let next = m.after state (head line) in
    ap (λ (bytes : List ℕ). line_output m state line ++ bytes)
    (lines_output-append m next rest others)
    ∙ sym (append_assoc (line_output m state line) (lines_output m next rest)
    (lines_output m (state_after m next rest) others))

pub state_after-append : {S : Type 0} (m : Machine S) (state : S) (some others : List (List ℕ))
    → state_after m state (some ++ others) ≡ state_after m (state_after m state some) others
state_after-append m state [] others = refl
state_after-append m state (line ∷ rest) others =
    state_after-append m (m.after state (head line)) rest others
