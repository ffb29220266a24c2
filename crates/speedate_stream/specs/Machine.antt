-- Machines over lines: what a program prints for each line of a text, one after the other.
use Rattle.std.specs.Prelude.{ℕ, ◌+◌, ◌&&◌, List, [], ◌∷◌, ◌++◌, length, take, drop, min, nat_lt, Bool, true, false, Option, Some, None, is_some}
use Rattle.speedate_base.specs.Ascii.{line_feed}
use Rattle.speedate_base.specs.Lines.{complete_lines, last_line, lines, unfinished_line}

-- how many bytes of a line a machine sees, but for one more, which tells that the line is longer
abbrev pub longest_line : ℕ
longest_line = 4096

-- what a machine sees of a line: all of it, or of a longer one its first 4,097 bytes
abbrev pub head : List ℕ → List ℕ
head line = take (longest_line + 1) line

-- what a machine does with a line, by its state and the head of the line: its next state, the text
-- that it prints, and the byte from which on it prints the line itself after that text, with a line
-- feed; and whether a state wants no further line
pub record Machine (S : Type 0) : Type 0 where
  pub after : S → List ℕ → S
  pub text : S → List ℕ → List ℕ
  pub rest : S → List ℕ → Option ℕ
  pub done : S → Bool

-- a line from a byte of its head on, or nothing of it
abbrev pub part_of : Option ℕ → List ℕ → List ℕ
part_of None line = []
part_of (Some from) line = drop (min from (length (head line))) line

-- the same with a line feed
abbrev pub rest_of : Option ℕ → List ℕ → List ℕ
rest_of None line = []
rest_of (Some from) line = part_of (Some from) line ++ line_feed ∷ []

-- what is printed for a line
abbrev pub line_output : {S : Type 0} → Machine S → S → List ℕ → List ℕ
line_output m state line =
    m.text state (head line) ++ rest_of (m.rest state (head line)) line

-- what is printed for lines
abbrev pub lines_output : {S : Type 0} → Machine S → S → List (List ℕ) → List ℕ
lines_output m state [] = []
lines_output m state (line ∷ others) =
    line_output m state line ++ lines_output m (m.after state (head line)) others

-- the state after lines
abbrev pub state_after : {S : Type 0} → Machine S → S → List (List ℕ) → S
state_after m state [] = state
state_after m state (line ∷ others) = state_after m (m.after state (head line)) others

-- Between two reads a text may end within a line. A line that is longer than a machine sees, and is
-- printed itself, is printed as it comes; of any other its head is kept.

-- whether a line whose end is not known is printed as it comes
abbrev pub is_passed : {S : Type 0} → Machine S → S → List ℕ → Bool
is_passed m state line =
    nat_lt longest_line (length line) && is_some (m.rest state (head line))

-- where a machine is after a text that may go on: its state, whether the unfinished line is printed
-- as it comes, and otherwise what is kept of it; and all that was printed
pub record Position (S : Type 0) : Type 0 where
  pub state : S
  pub passes : Bool
  pub kept : List ℕ
  pub printed : List ℕ

-- the position after lines, where the machine is in a state, and an unfinished line
abbrev pub in_line : {S : Type 0} → Machine S → S → List ℕ → Bool → Position S
in_line m state line true = record {
  state = m.after state (head line);
  passes = true;
  kept = [];
  printed = m.text state (head line) ++ part_of (m.rest state (head line)) line;
}
in_line m state line false =
    record { state = state; passes = false; kept = head line; printed = [] }

-- a position, before which some bytes were printed
abbrev pub printed_after : {S : Type 0} → List ℕ → Position S → Position S
printed_after bytes position = record {
  state = position.state;
  passes = position.passes;
  kept = position.kept;
  printed = bytes ++ position.printed;
}

-- the position after complete lines and an unfinished one
abbrev pub after_pieces : {S : Type 0} → Machine S → S → List (List ℕ) → List ℕ → Position S
after_pieces m state complete unfinished =
    let last = state_after m state complete in
    printed_after (lines_output m state complete)
    (in_line m last unfinished (is_passed m last unfinished))

-- the position after a text
abbrev pub position_after : {S : Type 0} → Machine S → S → List ℕ → Position S
position_after m state text = after_pieces m state (complete_lines text) (unfinished_line text)

-- what is printed for a text that may go on
abbrev pub progress : {S : Type 0} → Machine S → S → List ℕ → List ℕ
progress m state text = (position_after m state text).printed

-- the position after a text that goes on with a line which is printed as it comes: up to the line's
-- end the text is printed
abbrev pub passed : {S : Type 0} → Machine S → S → List (List ℕ) → List ℕ → Position S
passed m state [] unfinished =
    record { state = state; passes = true; kept = []; printed = unfinished }
passed m state (line ∷ lines) unfinished =
    printed_after (line ++ line_feed ∷ []) (after_pieces m state lines unfinished)

-- the position after a text from another position on, from the state and whether the text's first
-- line is printed as it comes
abbrev pub position_from : {S : Type 0} → Machine S → S → Bool → List ℕ → Position S
position_from m state true text = passed m state (complete_lines text) (unfinished_line text)
position_from m state false text = position_after m state text

-- what is printed at the end of a text for its last line: of one that was printed as it came, its
-- end
abbrev pub ending : {S : Type 0} → Machine S → S → Bool → List ℕ → List ℕ
ending m state true kept = line_feed ∷ []
ending m state false kept = lines_output m state (last_line kept)

-- the state after the last line
abbrev pub after_ending : {S : Type 0} → Machine S → S → Bool → List ℕ → S
after_ending m state true kept = state
after_ending m state false kept = state_after m state (last_line kept)
