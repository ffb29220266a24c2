-- How tables chain, and which of their rows has the place.
use Rattle.std.proofs.Common.{◌≡◌, ◌↔◌, ◌+◌, ◌≤◌, IfSome, ℕ, true, false, List, [], ◌∷◌, length, Result, Ok, rules, arith}
use Rattle.speedate_base.specs.Requirement.{TextRow, first_place, moved}
use Rattle.speedate_base.specs.Requirement.{with_no_more_or, result_and_then, ParseError}
use Rattle.speedate_base.specs.Refused.{Refused, alone_or, seen_as}

-- a value is alone in a text if and only if it takes all bytes
pub with_no_more-iff : {A E : Type 0} (refuse : ParseError → ℕ → E) (fault : A → ParseError)
    (text : List ℕ) (front : Result (A × ℕ) E) (value : A)
    → (result_and_then (with_no_more_or refuse fault text) front ≡ Ok value)
    ↔ (front ≡ Ok (value, length text))
with_no_more-iff refuse fault text front value = search rules

-- also where a kind of refusal shows it
pub alone-iff : {A E : Type 0} (refuse : ParseError → ℕ → E) (fault : A → ParseError)
    (text : List ℕ) (front : Result (A × ℕ) Refused) (value : A)
    → (result_and_then (alone_or fault text) front ≡ Ok value)
    ↔ (seen_as refuse front ≡ Ok (value, length text))
alone-iff refuse fault text front value = search rules

-- where the answer to what was read is a value, something was read
pub and_then-ok : {A B E : Type 0} (next : A → Result B E) (answer : Result A E)
    (value : B) → result_and_then next answer ≡ Ok value
    → (read : A) × (answer ≡ Ok read) × (next read ≡ Ok value)
and_then-ok next answer value same = search rules

-- The places of rows.

-- the rows of a table have places up to a number, given that those before them hold
abbrev pub AreWithin : ℕ → List TextRow → Type 0
AreWithin size [] = Unit {0}
AreWithin size (row ∷ rows) =
    (row.holds ≡ false → row.place ≤ size) × (row.holds ≡ true → AreWithin size rows)

-- so the place of the table is
pub first_place-within : (size : ℕ) (rows : List TextRow) → AreWithin size rows
    → IfSome (first_place rows) (λ place. place ≤ size)
first_place-within size [] are = tt
first_place-within size (row ∷ rows) are =
    search (rules, first_place-within size rows, are.0, are.1)

pub are_within-moved : (start size : ℕ) (rows : List TextRow) → AreWithin size rows
    → AreWithin (start + size) (moved start rows)
are_within-moved start size [] are = tt
are_within-moved start size (row ∷ rows) are = (
  λ fails. let first = are.0 fails in omega arith,
  λ holds. are_within-moved start size rows (are.1 holds),
)
