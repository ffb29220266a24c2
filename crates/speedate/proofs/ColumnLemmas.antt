-- A column, line by line.
use Rattle.std.proofs.Common.{rules, Bool, false, ◌≡◌, ap, refl, ℕ, zero, suc, ◌+◌, ◌-◌, ◌≤◌, List, [], ◌∷◌, ◌++◌, length, take, drop, set, add-one, append_assoc, arith, Option, Some, None, Result, Ok}
use Rattle.std.proofs.Math.Seq.{take-nil}
use Rattle.std.proofs.lemmas.List.{take-append-drop, drop-drop, drop-take, length-drop, length-take, length-take-le}
use Rattle.speedate.specs.declared.column.Line.{Line}
use Rattle.speedate_base.specs.Lines.{unfinished_line, whole_lines}
use Rattle.speedate.specs.Column.{Column, IsFirstLine, IsFirstLineOf, LineConfig, LineError, entry}
use Rattle.speedate.specs.Column.{column, line_answer, onto_column, text_column, overwritten}

-- nothing put over a list
overwritten-nil : {N : Type 0} → (old : List N) → overwritten old [] ≡ old
overwritten-nil [] = refl
overwritten-nil (one ∷ ones) = refl

-- one more of its places overwritten
overwritten-step : {N : Type 0} → (old : List N) (k : ℕ) (one : N) (others : List N)
    → take k old ++ overwritten (drop k old) (one ∷ others) ≡ take (suc k)
    (set old k one) ++ overwritten (drop (suc k) (set old k one)) others
overwritten-step [] zero one others = refl
overwritten-step [] (suc k) one others = refl
overwritten-step (first ∷ rest) zero one others = refl
overwritten-step {N = N} (first ∷ rest) (suc k) one others =
    ap (λ (list : List N). first ∷ list) (overwritten-step rest k one others)

-- what is written, and what is left of the old list
pub overwritten-rest : {N : Type 0} → (old new : List N) → length new ≤ length old
    → overwritten old new ≡ new ++ drop (length new) old
overwritten-rest [] [] fits = refl
overwritten-rest [] (other ∷ others) fits = absurd (omega (arith, fits))
overwritten-rest (one ∷ ones) [] fits = refl
overwritten-rest {N = N} (one ∷ ones) (other ∷ others) fits =
    ap (λ (list : List N). other ∷ list) (overwritten-rest ones others (omega (arith, fits)))

-- the same where the list goes on after what is overwritten
pub overwritten-front : {N : Type 0} → (old new all : List N) (room lines : ℕ) → room ≤ length old
    → lines ≤ room → lines ≡ length new
    → all ≡ overwritten (take room old) new → all ++ drop room old ≡ new ++ drop lines old
overwritten-front {N = N} old new all room lines within few counted is =
    let cut : List N = take room old in
    let fits : length new ≤ length cut =
    omega (arith, length-take-le room old within, few, counted) in
    let more = room - lines in
    let after : List N = drop lines old in
    search (
      rules,
      overwritten-rest cut new fits,
      append_assoc new (take more after) (drop room old),
      drop-take lines more old,
      drop-drop more lines old,
      take-append-drop more after,
    )

-- what a column holds after some lines: the whole column, by what is written and by the column of
-- what is left
pub record IsSoFar {N : Type 0} (whole left : Column N) (lines : ℕ) (out_old out_new : List N)
    (errors_old errors_new : List ℕ) : Type 0 where
  pub count : length whole.numbers ≡ lines + length left.numbers
  pub fault : whole.fault ≡ left.fault
  pub numbers : overwritten out_old whole.numbers
      ≡ take lines out_new ++ overwritten (drop lines out_new) left.numbers
  pub errors : overwritten errors_old whole.errors
      ≡ take lines errors_new ++ overwritten (drop lines errors_new) left.errors

-- before the first line
pub IsSoFar-none : {N : Type 0} → (whole left : Column N) (out : List N) (errors : List ℕ)
    → whole ≡ left → IsSoFar whole left 0 out out errors errors
IsSoFar-none {N = N} whole left out errors same = search rules

-- after one more line
pub IsSoFar-more : {N : Type 0}
    → (whole left rest : Column N) (lines next : ℕ) (out_old out out_new : List N)
    (errors_old errors errors_new : List ℕ) (held : N × ℕ)
    → IsSoFar whole left lines out_old out errors_old errors → left ≡ onto_column (Ok held) rest
    → next ≡ lines + 1
    → out_new ≡ set out lines held.0 → errors_new ≡ set errors lines held.1
    → IsSoFar whole rest next out_old out_new errors_old errors_new
IsSoFar-more {N = N} whole left rest lines next out_old out out_new errors_old errors errors_new
    held before is counted out_is errors_is = search (rules, overwritten-step, add-one)

-- at the end, where nothing is left
pub record IsWhole {N : Type 0} (whole : Column N) (fault : Option LineError) (lines : ℕ)
    (out_old out_new : List N) (errors_old errors_new : List ℕ) : Type 0 where
  pub numbers : out_new ≡ overwritten out_old whole.numbers
  pub errors : errors_new ≡ overwritten errors_old whole.errors
  pub count : lines ≡ length whole.numbers
  pub ends : fault ≡ whole.fault

pub IsSoFar-whole : {N : Type 0}
    → (whole left : Column N) (fault : Option LineError) (lines : ℕ) (out_old out_new : List N)
    (errors_old errors_new : List ℕ)
    → IsSoFar whole left lines out_old out_new errors_old errors_new
    → left ≡ record { numbers = []; errors = []; fault = fault }
    → IsWhole whole fault lines out_old out_new errors_old errors_new
IsSoFar-whole {N = N} whole left fault lines out_old out errors_old errors before none =
    search (rules, overwritten-nil, take-append-drop)

-- The column of a text from its first line on.

-- with room for more lines than one, what is held of the first line is put before the column of the
-- rest
pub text_column-first : {N : Type 0}
    → (answer : List ℕ → Result N LineError) (config : LineConfig) (refused : Option N)
    (room more : ℕ) (text : List ℕ) (line : Line N) (held : Result (N × ℕ) LineError)
    → IsFirstLine answer config text line → room ≡ more + 1 → held ≡ entry refused line.answer
    → text_column answer config refused room text
    ≡ onto_column held (text_column answer config refused more (drop line.size text))
unfolding text_column
text_column-first {N = N} answer config refused room more text line held found one is =
    search (rules, add-one)

-- without room, or without a whole line, it is empty
pub text_column-full : {N : Type 0}
    → (answer : List ℕ → Result N LineError) (config : LineConfig) (refused : Option N) (room : ℕ)
    (text : List ℕ)
    → room ≡ 0
    → text_column answer config refused room text
    ≡ record { numbers = []; errors = []; fault = None }
unfolding text_column
text_column-full answer config refused room text none =
    ap (λ (n : ℕ). text_column answer config refused n text) none

pub text_column-none : {N : Type 0}
    → (answer : List ℕ → Result N LineError) (config : LineConfig) (refused : Option N) (room : ℕ)
    (text : List ℕ)
    → whole_lines config.at_end text ≡ []
    → text_column answer config refused room text
    ≡ record { numbers = []; errors = []; fault = None }
unfolding text_column
text_column-none answer config refused room text none = search (rules, take-nil)

-- it has no more lines than there is room for
onto_column-short : {N : Type 0} → (held : Result (N × ℕ) LineError) (rest : Column N) (room : ℕ)
    → length rest.numbers ≤ room → length (onto_column held rest).numbers ≤ suc room
onto_column-short held rest room short = search rules

column-short : {N : Type 0}
    → (answer : List ℕ → Result N LineError) (refused : Option N) (lines : List (List ℕ))
    → length (column answer refused lines).numbers ≤ length lines
column-short answer refused [] = omega arith
column-short answer refused (line ∷ lines) =
    search (rules, onto_column-short, column-short answer refused lines)

pub text_column-short : {N : Type 0}
    → (answer : List ℕ → Result N LineError) (config : LineConfig) (refused : Option N) (room : ℕ)
    (text : List ℕ)
    → length (text_column answer config refused room text).numbers ≤ room
unfolding text_column
text_column-short answer config refused room text = search (rules, column-short, length-take)

-- it has an error for each number
onto_column-errors : {N : Type 0} → (held : Result (N × ℕ) LineError) (rest : Column N)
    → length rest.errors ≡ length rest.numbers
    → length (onto_column held rest).errors ≡ length (onto_column held rest).numbers
onto_column-errors held rest same = search rules

column-errors : {N : Type 0}
    → (answer : List ℕ → Result N LineError) (refused : Option N) (lines : List (List ℕ))
    → length (column answer refused lines).errors ≡ length (column answer refused lines).numbers
column-errors answer refused [] = refl
column-errors answer refused (line ∷ lines) =
    search (rules, onto_column-errors, column-errors answer refused lines)

pub text_column-errors : {N : Type 0}
    → (answer : List ℕ → Result N LineError) (config : LineConfig) (refused : Option N) (room : ℕ)
    (text : List ℕ)
    → length (text_column answer config refused room text).errors
    ≡ length (text_column answer config refused room text).numbers
unfolding text_column
text_column-errors answer config refused room text =
    column-errors (line_answer answer config) refused (take room (whole_lines config.at_end text))

-- where a refused line gets a number, none ends it
onto_column-goes_on : {N : Type 0} → (given : Result N LineError) (number : N) (rest : Column N)
    → rest.fault ≡ None
    → (onto_column (entry (Some number) given) rest).fault ≡ None
onto_column-goes_on given number rest none = search rules

column-goes_on : {N : Type 0}
    → (answer : List ℕ → Result N LineError) (number : N) (lines : List (List ℕ))
    → (column answer (Some number) lines).fault ≡ None
column-goes_on answer number [] = refl
column-goes_on answer number (line ∷ lines) =
    search (rules, onto_column-goes_on, column-goes_on answer number lines)

pub text_column-goes_on : {N : Type 0}
    → (answer : List ℕ → Result N LineError) (config : LineConfig) (number : N) (room : ℕ)
    (text : List ℕ)
    → (text_column answer config (Some number) room text).fault ≡ None
unfolding text_column
text_column-goes_on answer config number room text =
    column-goes_on (line_answer answer config) number (take room (whole_lines config.at_end text))

-- what is written of it, and what is left of the old numbers
pub text_column-written : {N : Type 0}
    → (answer : List ℕ → Result N LineError) (config : LineConfig) (refused : Option N)
    (old : List N) (text : List ℕ) (lines : ℕ)
    → lines ≡ length (text_column answer config refused (length old) text).numbers
    → overwritten old (text_column answer config refused (length old) text).numbers
    ≡ (text_column answer config refused (length old) text).numbers ++ drop lines old
text_column-written {N = N} answer config refused old text lines counted =
    search (rules, text_column-short, overwritten-rest)

-- what is left of a text after so many of its whole lines
pub record IsLeft (at_end : Bool) (text rest : List ℕ) (lines : ℕ) : Type 0 where
  pub place : drop (length text - length rest) text ≡ rest
  pub whole : whole_lines at_end (drop (length text - length rest) text)
      ≡ drop lines (whole_lines at_end text)
  pub unfinished : at_end ≡ false
      → unfinished_line (drop (length text - length rest) text) ≡ unfinished_line text

pub IsLeft-more : (config : LineConfig) (text rest read : List ℕ) (size lines : ℕ)
    → length rest ≤ length text → IsLeft config.at_end text rest lines
    → IsFirstLineOf config rest read size
    → IsLeft config.at_end text (drop size rest) (lines + 1)
IsLeft-more config text rest read size lines within before found =
    let bytes : ℕ = length text - length rest in
    let after : List ℕ = drop size rest in
    let cut : length text - length after ≡ bytes + size =
    omega (arith, length-drop size rest, within, found.within) in
    let place : drop (length text - length after) text ≡ after =
    cc (cut, before.place, drop-drop size bytes text) in
    search (rules, place, before.place, drop-drop 1 lines (whole_lines config.at_end text))
