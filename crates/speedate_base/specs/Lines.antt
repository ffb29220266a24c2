-- The lines of a text: each is ended by a line feed or by the end of the text.
use Rattle.std.specs.Prelude.{◌≡◌, ◌≢◌, ℕ, ◌-◌, ◌<◌, ◌≤◌, ◌==◌, ◌&&◌, Bool, length, slice_index, List, [], ◌∷◌, ◌++◌, take, if◌then◌else◌}
use Rattle.speedate_base.specs.Ascii.{carriage_return, line_feed}

-- the pieces of a text between its line feeds
pub record Pieces : Type 0 where
  pub complete : List (List ℕ)
  pub unfinished : List ℕ

-- some bytes put before the first piece
abbrev pub onto_first : List ℕ → List (List ℕ) → List ℕ → Pieces
onto_first front [] unfinished = record { complete = []; unfinished = front ++ unfinished }
onto_first front (line ∷ lines) unfinished =
    record { complete = (front ++ line) ∷ lines; unfinished = unfinished }

-- each piece that a line feed ends is complete, and what stands after the last line feed is
-- unfinished
abbrev pub pieces : List ℕ → Pieces
pieces [] = record { complete = []; unfinished = [] }
pieces (byte ∷ bytes) =
    let rest = pieces bytes in
    if byte == line_feed then record { complete = [] ∷ rest.complete; unfinished = rest.unfinished }
    else onto_first (byte ∷ []) rest.complete rest.unfinished

-- the lines of a text that a line feed ends
abbrev pub complete_lines : List ℕ → List (List ℕ)
complete_lines text = (pieces text).complete

-- what stands after the last line feed of a text
abbrev pub unfinished_line : List ℕ → List ℕ
unfinished_line text = (pieces text).unfinished

-- the last line of a text, which no line feed ends: there is none if it is empty
abbrev pub last_line : List ℕ → List (List ℕ)
last_line [] = []
last_line (byte ∷ bytes) = (byte ∷ bytes) ∷ []

-- all lines of a text
abbrev pub lines : List ℕ → List (List ℕ)
lines text = complete_lines text ++ last_line (unfinished_line text)

abbrev pub is_line_feed : ℕ → Bool
is_line_feed byte = byte == line_feed

-- no line feed stands from one place up to another
abbrev pub IsOneLine : List ℕ → ℕ → ℕ → Type 0
IsOneLine text from to = (k : ℕ) → from ≤ k → k < to → slice_index text k ≢ line_feed

-- the first line feed from a place on
pub record IsLineEnd (text : List ℕ) (from end : ℕ) : Type 0 where
  pub after : from ≤ end
  pub within : end < length text
  pub ends : slice_index text end ≡ line_feed
  pub first : IsOneLine text from end

-- the lines of a text that are whole: its unfinished line is one at the end of what is read, and
-- otherwise may go on
abbrev pub whole_lines : Bool → List ℕ → List (List ℕ)
whole_lines at_end text = if at_end then lines text else complete_lines text

-- a line without the carriage return that it may end with, if that is to be dropped
abbrev pub without_return : Bool → List ℕ → List ℕ
without_return drops line =
    let last = length line - 1 in
    if drops && (slice_index line last == carriage_return) then take last line else line
