-- The text of a column, line by line.
use Rattle.std.proofs.Common.{rules, Bool, ◌≡◌, ◌≢◌, ◌∙◌, ap, refl, ℕ, ◌+◌, ◌-◌, ◌<◌, ◌≤◌, List, [], ◌∷◌, ◌++◌, length, take, drop, get_or, map, append_assoc, append-nil, arith, Some, Result, Ok}
use Rattle.std.proofs.Math.Seq.{take-append_seam, drop-append_seam}
use Rattle.std.proofs.lemmas.List.{length-append, length-take-le, map-append, take_all, drop-drop}
use Rattle.std.proofs.lemmas.Bool.{lt-ltb}
use Rattle.std.proofs.lemmas.List.Elements.{All-from_get_or}
use Rattle.speedate_base.specs.Ascii.{HasNoControl, carriage_return, line_feed}
use Rattle.speedate.specs.Column.{Column, LineConfig, LineError, column, entry, line_answer}
use Rattle.speedate.specs.Column.{onto_column, text_column}
use Rattle.speedate.specs.ColumnText.{ColumnText, column_text, number_or, onto_lines}
use Rattle.speedate_base.specs.Lines.{complete_lines, lines, unfinished_line, whole_lines}
use Rattle.speedate_base.proofs.LineLemmas.{EndsNoLine, IsFree, pieces-append, pieces-line}
use Rattle.speedate_base.proofs.LineLemmas.{no_return-printed}

-- the whole text, by what is printed of it and the text of what is left
pub record IsPrintedSoFar (whole left : ColumnText) (lines bytes : ℕ) (out_old out : List ℕ)
    : Type 0 where
  pub count : whole.lines ≡ lines + left.lines
  pub fault : whole.fault ≡ left.fault
  pub text : whole.text ≡ take bytes out ++ left.text
  pub kept : drop bytes out ≡ drop bytes out_old

-- a text of whole lines, which each reader that leads back reads as these numbers
pub record IsReadSoFar {N : Type 0}
    (LeadsBack : (List ℕ → Result N LineError) → N → Type 0) (text : List ℕ) (numbers : List N)
    : Type 0 where
  pub whole : unfinished_line text ≡ []
  pub count : length (complete_lines text) ≡ length numbers
  pub reads : (answer : List ℕ → Result N LineError) (refused : N) (config : LineConfig)
      → LeadsBack answer refused
      → map (λ line. number_or refused (line_answer answer config line)) (complete_lines text)
      ≡ numbers

-- a column in which a refused line has a number has a number of each line
onto-map : {N : Type 0} → (refused : N) (answer : Result N LineError) (rest : Column N)
    → (onto_column (entry (Some refused) answer) rest).numbers
    ≡ number_or refused answer ∷ rest.numbers
onto-map refused answer rest = search rules

column-map : {N : Type 0} → (answer : List ℕ → Result N LineError) (refused : N)
    (all : List (List ℕ))
    → (column answer (Some refused) all).numbers ≡ map (λ line. number_or refused (answer line)) all
column-map answer refused [] = refl
column-map {N = N} answer refused (line ∷ all) =
    onto-map refused (answer line) (column answer (Some refused) all)
    ∙ ap (λ (numbers : List N). number_or refused (answer line) ∷ numbers)
    (column-map answer refused all)

-- the lines of a text that ends with a line feed are whole
whole_lines-whole : (at_end : Bool) (text : List ℕ) → unfinished_line text ≡ []
    → whole_lines at_end text ≡ complete_lines text
whole_lines-whole at_end text whole = search (rules, append-nil)

-- the column of such a text
pub text_column-read : {N : Type 0}
    → (LeadsBack : (List ℕ → Result N LineError) → N → Type 0) (text : List ℕ)
    (numbers : List N) → IsReadSoFar LeadsBack text numbers
    → (answer : List ℕ → Result N LineError) (refused : N) (config : LineConfig) (room : ℕ)
    → length numbers ≤ room → LeadsBack answer refused
    → (text_column answer config (Some refused) room text).numbers ≡ numbers
unfolding text_column
text_column-read {N = N} LeadsBack text numbers read answer refused config room enough back =
    let all = complete_lines text in
    cc (
      whole_lines-whole config.at_end text read.whole,
      take_all room all (omega (arith, read.count, enough)),
      column-map (line_answer answer config) refused all,
      read.reads answer refused config back,
    )

-- after one more line
pub IsPrintedSoFar-more : (whole left rest : ColumnText) (lines next_line bytes next : ℕ)
    (out_old out out_new line : List ℕ)
    → IsPrintedSoFar whole left lines bytes out_old out → left ≡ onto_lines line rest
    → next_line ≡ lines + 1 → next ≡ bytes + (length line + 1)
    → bytes + length line < length out
    → out_new ≡ take bytes out ++ (line ++ line_feed ∷ drop (bytes + length line + 1) out)
    → IsPrintedSoFar whole rest next_line next out_old out_new
    × (take next out_new ≡ take bytes out ++ (line ++ line_feed ∷ []))
IsPrintedSoFar-more whole left rest lines next_line bytes next out_old out out_new line before is
    one_more there within put =
    let front : List ℕ = take bytes out in
    let ended : List ℕ = line ++ line_feed ∷ [] in
    let tail : List ℕ = drop (bytes + length line + 1) out in
    let long : length front ≡ bytes = length-take-le bytes out (omega (arith, within)) in
    let size : length (front ++ ended) ≡ next =
    omega (arith, there, long, length-append front ended, length-append line (line_feed ∷ [])) in
    search (
      rules,
      append_assoc,
      take-append_seam (front ++ ended) tail,
      drop-append_seam (front ++ ended) tail,
      drop-drop (length line + 1) bytes out,
      drop-drop (length line + 1) bytes out_old,
    )

-- a line without control characters holds no line feed, and ends with no carriage return
free : (line : List ℕ) → HasNoControl (length line) line → IsFree line
free line printed =
    All-from_get_or EndsNoLine line 0 (λ k below same.
    absurd (omega (arith, printed k below, same)))

no_return : (line : List ℕ) → HasNoControl (length line) line
    → get_or line (length line - 1) 0 ≢ carriage_return
no_return [] printed = λ same. absurd (omega (arith, same))
no_return (byte ∷ bytes) printed =
    no_return-printed (byte ∷ bytes) (length (byte ∷ bytes)) printed (omega arith)

-- one more line is read as its number
pub IsReadSoFar-more : {N : Type 0}
    → (LeadsBack : (List ℕ → Result N LineError) → N → Type 0) (text line : List ℕ)
    (numbers : List N) (number : N)
    → IsReadSoFar LeadsBack text numbers → HasNoControl (length line) line
    → ((answer : List ℕ → Result N LineError) (refused : N) → LeadsBack answer refused
    → number_or refused (answer line) ≡ number)
    → IsReadSoFar LeadsBack (text ++ (line ++ line_feed ∷ [])) (numbers ++ number ∷ [])
IsReadSoFar-more {N = N} LeadsBack text line numbers number before printed back =
    let ended = pieces-append text (line ++ line_feed ∷ []) in
    let whole = pieces-line line [] (free line printed) in
    search (rules, ended, whole, length-append, map-append, no_return)

-- the text of numbers by that of the first
pub column_text-more : {N : Type 0} → (line_of : N → Result (List ℕ) LineError) (room : ℕ)
    (number : N) (numbers : List N) (line : List ℕ) → line_of number ≡ Ok line
    → length line < room
    → column_text line_of room (number ∷ numbers)
    ≡ onto_lines line (column_text line_of (room - (length line + 1)) numbers)
column_text-more line_of room number numbers line is fits =
    rw (is, lt-ltb (length line) room fits) refl
