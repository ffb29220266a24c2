-- A grammar as an ordered table: each row is a test of the text, the fault of a text that fails it,
-- and the place of what the row is about. A fault is an error of the code; definitions and local
-- names call it so, since `Error` is a behavior.
use Rattle.std.specs.Prelude.{◌≡◌, ℕ, ◌+◌, Bool, true, List, [], ◌∷◌, length, ◌==◌, Result, Ok, Err, if◌then◌else◌, Option, Some, None}
use Rattle.std.specs.Result.{result_map_both, result_flatten}
pub use Rattle.speedate_base.specs.declared.faults.ParseError.{ParseError}

-- what is required, the fault of what does not meet it, and where that is
pub record Requirement (Place : Type 0) : Type 0 where
  pub holds : Bool
  pub fault : ParseError
  pub place : Place

-- a requirement of numbers, which has no place
abbrev pub NumberRow : Type 0
NumberRow = Requirement (Unit {0})

-- a requirement of a text: its place is the byte at which the part that it is about begins, or
-- would begin
abbrev pub TextRow : Type 0
TextRow = Requirement ℕ

infix 20 ◌else_fault◌
-- a row of a table: a test, and the fault of what fails it
abbrev pub ◌else_fault◌ : Bool → ParseError → NumberRow
test else_fault fault = record { holds = test; fault = fault; place = tt }

infix 18 ◌at_place◌
-- a row with another place
abbrev pub ◌at_place◌ : {Place To : Type 0} → Requirement Place → To → Requirement To
row at_place place = record { holds = row.holds; fault = row.fault; place = place }

infix 18 ◌at_byte◌
-- a row with its place in a text
abbrev pub ◌at_byte◌ : {Place : Type 0} → Requirement Place → ℕ → TextRow
row at_byte place = row at_place place

-- rows of numbers that are all about what begins at a byte
abbrev pub all_at_byte : ℕ → List NumberRow → List TextRow
all_at_byte place [] = []
all_at_byte place (row ∷ rows) = (row at_byte place) ∷ all_at_byte place rows

-- the rows of a part of a text that begins at a byte
abbrev pub moved : ℕ → List TextRow → List TextRow
moved start [] = []
moved start (row ∷ rows) = (row at_byte (start + row.place)) ∷ moved start rows

infix 15 ◌implies◌
-- a test that is asked only if another one holds
abbrev pub ◌implies◌ : Bool → Bool → Bool
there implies asked = if there then asked else true

-- what comes next if every row of a table holds, otherwise the refusal that is made of the fault
-- and the place of the first row that does not
abbrev pub first_refusal_or : {Place A E : Type 0} → (ParseError → Place → E)
    → List (Requirement Place) → Result A E → Result A E
first_refusal_or refuse [] next = next
first_refusal_or refuse (row ∷ rows) next =
    if row.holds then first_refusal_or refuse rows next else Err (refuse row.fault row.place)

-- a refusal that is its fault alone
abbrev pub fault_alone : {Place : Type 0} → ParseError → Place → ParseError
fault_alone fault place = fault

-- a refusal of a part of a text that begins at a byte
abbrev pub shifted : {E : Type 0} → ℕ → (ParseError → ℕ → E) → ParseError → ℕ → E
shifted start refuse fault place = refuse fault (start + place)

-- what comes next if every row of a table holds, otherwise the fault of the first row that does not
abbrev pub first_fault_or : {Place A : Type 0} → List (Requirement Place) → Result A ParseError
    → Result A ParseError
first_fault_or rows next = first_refusal_or fault_alone rows next

-- the place of the first row of a table that does not hold, if there is one
abbrev pub first_place : List TextRow → Option ℕ
first_place [] = None
first_place (row ∷ rows) = if row.holds then first_place rows else Some row.place

-- every row of a table holds
abbrev pub AllHold : {Place : Type 0} → List (Requirement Place) → Type 0
AllHold [] = Unit {0}
AllHold (row ∷ rows) = (row.holds ≡ true) × AllHold rows

-- an answer with its value seen in another way, as a `Date` in numbers; a fault stays
abbrev pub result_map : {A B E : Type 0} → (A → B) → Result A E → Result B E
result_map view answer = result_map_both view (λ fault. fault) answer

-- an answer with its refusal seen in another way, as by its fault alone; a value stays
abbrev pub refusal_map : {A E D : Type 0} → (E → D) → Result A E → Result A D
refusal_map view answer = result_map_both (λ value. value) view answer

-- a value and how many bytes of a text it takes, with the value seen in another way
abbrev pub with_size : {A B : Type 0} → (A → B) → A × ℕ → B × ℕ
with_size view front = (view front.0, front.1)

-- what a text has to meet to end with the value at its front, which takes some bytes of it
abbrev pub end_table : ParseError → ℕ → List ℕ → List TextRow
end_table fault size text = (length text == size else_fault fault at_byte size) ∷ []

-- the value at the front of a text, with how many bytes it takes, if the text ends with it;
-- otherwise the refusal
abbrev pub with_no_more_or : {A E : Type 0} → (ParseError → ℕ → E) → (A → ParseError) → List ℕ
    → A × ℕ → Result A E
with_no_more_or refuse fault text front =
    first_refusal_or refuse (end_table (fault front.0) front.1 text) (Ok front.0)

-- the same, otherwise its fault
abbrev pub with_no_more : {A : Type 0} → (A → ParseError) → List ℕ → A × ℕ → Result A ParseError
with_no_more fault text front = with_no_more_or fault_alone fault text front

-- what is answered to a value that was read; a fault stays
abbrev pub result_and_then : {A B E : Type 0} → (A → Result B E) → Result A E → Result B E
result_and_then next answer = result_flatten (result_map next answer)

infixl 10 ◌>>=◌
abbrev pub ◌>>=◌ : {A B E : Type 0} → Result A E → (A → Result B E) → Result B E
answer >>= next = result_and_then next answer

-- the answer of a table; but if that is a refusal and the text is a number, the answer to that
-- number
abbrev pub or_number : {A E : Type 0} → Option (Result A E) → Result A E → Result A E
or_number number (Ok value) = Ok value
or_number (Some answer) (Err refusal) = answer
or_number None (Err refusal) = Err refusal

-- the answer to all that begins at a byte of a text, of which a fault is about all
abbrev pub refused_at : {A E : Type 0} → (ParseError → ℕ → E) → ℕ → Result A ParseError
    → Result A E
refused_at refuse place (Ok value) = Ok value
refused_at refuse place (Err fault) = Err (refuse fault place)
