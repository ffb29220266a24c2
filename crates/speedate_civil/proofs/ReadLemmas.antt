-- What holds of a value that was read by tables and by steps.
use Rattle.std.proofs.Common.{◌≡◌, ℕ, Bool, true, false, if◌then◌else◌, List, [], ◌∷◌, IfOk, Result, Ok, Err, rules, subst}
use Rattle.speedate_civil.specs.Base.{ParseError}
use Rattle.speedate_base.specs.declared.refusal.Refused.{Refused}
use Rattle.speedate_base.specs.Refused.{seen_as}
use Rattle.speedate_base.specs.Requirement.{AllHold, Requirement, TextRow, first_refusal_or}
use Rattle.speedate_base.specs.Requirement.{result_map}
use Rattle.speedate_base.specs.Requirement.{result_and_then}
use Rattle.speedate_base.proofs.RefusalLemmas.{seen-read}
use Rattle.speedate_base.specs.Refused.{first_refused_or, from_byte, placed}

-- a choice by a test
pub if_cases : {A : Type 0} (P : A → Type 0) (test : Bool) (one other : A) → (test ≡ true → P one)
    → (test ≡ false → P other) → P (if test then one else other)
if_cases P test one other holds fails = search rules

-- a table lets a value through where its rows hold
pub read-table : {Place A E : Type 0} (refuse : ParseError → Place → E) (P : A → Type 0)
    (rows : List (Requirement Place)) (next : Result A E)
    → (AllHold rows → IfOk next P) → IfOk (first_refusal_or refuse rows next) P
read-table refuse P [] next held = held tt
read-table refuse P (row ∷ rows) next held =
    if_cases (λ (answer : Result _ _). IfOk answer P) row.holds (first_refusal_or refuse rows next)
    (Err (refuse row.fault row.place))
    (λ first. read-table refuse P rows next (λ others. held (first, others))) (λ fails. tt)

pub read-rows : {A : Type 0} (P : A → Type 0) (rows : List TextRow) (next : Result A Refused)
    → (AllHold rows → IfOk next P) → IfOk (first_refused_or rows next) P
read-rows P rows next held = read-table placed P rows next held

-- a step is taken with what was read before
pub read-then : {A B E : Type 0} (P : B → Type 0) (next : A → Result B E) (answer : Result A E)
    → ((read : A) → answer ≡ Ok read → IfOk (next read) P) → IfOk (result_and_then next answer) P
read-then P next answer held = search rules

-- also with the answer to a part of a text
pub read-part : {A B E : Type 0} (P : B → Type 0) (next : A → Result B E)
    (refuse : ParseError → ℕ → E) (answer : Result A Refused)
    → ((read : A) → answer ≡ Ok read → IfOk (next read) P)
    → IfOk (result_and_then next (seen_as refuse answer)) P
read-part P next refuse answer held = search (rules, read-then, seen-read)

-- what holds of the value of a part of a text holds of it there
pub read-from : {A : Type 0} (P : A → Type 0) (start : ℕ) (answer : Result A Refused)
    → IfOk answer P → IfOk (from_byte start answer) P
read-from P start (Ok value) held = held
read-from P start (Err refused) held = tt

pub read-map : {A B E : Type 0} (P : B → Type 0) (view : A → B) (answer : Result A E)
    → IfOk answer (λ read. P (view read)) → IfOk (result_map view answer) P
read-map P view answer held = search rules

-- of a value that is known
pub read-value : {A E : Type 0} (P : A → Type 0) (answer : Result A E) (value : A)
    → answer ≡ Ok value → IfOk answer P → P value
read-value {A = A} {E = E} P answer value is held =
    subst (λ (given : Result A E). IfOk given P) is held

-- of a result whose value is seen as the one that was read
pub read-result : {A B : Type 0} (view : A → B) (P : B → Type 0) (result : Result A ParseError)
    (answer : Result B ParseError)
    → result_map view result ≡ answer → IfOk answer P → IfOk result (λ value. P (view value))
read-result view P result answer is held = search rules

-- also where a kind of refusal shows the answer
pub read-seen : {A B E : Type 0} (refuse : ParseError → ℕ → E) (view : A → B) (P : B → Type 0)
    (result : Result A E) (answer : Result B Refused)
    → result_map view result ≡ seen_as refuse answer → IfOk answer P
    → IfOk result (λ value. P (view value))
read-seen refuse view P result answer is held = search rules
