-- Refusals seen in another way: their faults alone.
use Rattle.std.proofs.Common.{◌∙◌, length, ◌≡◌, ℕ, ◌+◌, ap, add_assoc, zero-add, sym, List, [], ◌∷◌, ◌++◌, Option, Result, Ok, Err, refl, rules}
use mathlib.Core.Path.{fun_ext}
use Rattle.std.specs.Option.{option_map}
use Rattle.std.specs.Result.{result_and}
use Rattle.speedate_base.specs.Requirement.{AllHold, ParseError, Requirement, TextRow}
use Rattle.speedate_base.specs.Requirement.{first_place, first_refusal_or, moved, or_number}
use Rattle.speedate_base.specs.Requirement.{refusal_map, result_and_then, result_map, shifted}
use Rattle.speedate_base.specs.Requirement.{with_no_more_or}
use Rattle.speedate_base.specs.Refused.{Refused, alone_or, first_refused_or, from_byte, placed}
use Rattle.speedate_base.specs.Refused.{refused_place, seen_as, without_place}

-- a table's refusal in another way is made so of each row
pub first_refusal_or-view : {Place A E D : Type 0} (view : E → D) (refuse : ParseError → Place → E)
    (rows : List (Requirement Place)) (next : Result A E)
    → refusal_map view (first_refusal_or refuse rows next)
    ≡ first_refusal_or (λ fault place. view (refuse fault place)) rows (refusal_map view next)
first_refusal_or-view view refuse [] next = refl
first_refusal_or-view view refuse (row ∷ rows) next =
    search (rules, first_refusal_or-view view refuse rows next)

-- a part of a part begins at the sum of both places
pub shifted-shifted : {E : Type 0} (start inner : ℕ) (refuse : ParseError → ℕ → E)
    → shifted inner (shifted start refuse) ≡ shifted (start + inner) refuse
shifted-shifted start inner refuse =
    fun_ext (λ fault. fun_ext (λ place. ap (refuse fault) (sym (add_assoc start inner place))))

-- a part that begins at the front is the whole
pub shifted-none : {E : Type 0} (refuse : ParseError → ℕ → E) → shifted 0 refuse ≡ refuse
shifted-none refuse = fun_ext (λ fault. fun_ext (λ place. ap (refuse fault) (zero-add place)))

-- what a table refuses or lets through does not depend on what comes next
pub first_refusal_or-chain : {Place A B E : Type 0} (refuse : ParseError → Place → E)
    (rows : List (Requirement Place)) (value : A) (next : Result B E)
    → first_refusal_or refuse rows next ≡ result_and (first_refusal_or refuse rows (Ok value)) next
first_refusal_or-chain refuse [] value next = refl
first_refusal_or-chain refuse (row ∷ rows) value next =
    search (rules, first_refusal_or-chain refuse rows value next)

pub first_refusal_or-next : {Place A B E : Type 0} (refuse : ParseError → Place → E)
    (rows : List (Requirement Place)) (value : A)
    (front : Result A E) (next : Result B E)
    → front ≡ first_refusal_or refuse rows (Ok value)
    → result_and front next ≡ first_refusal_or refuse rows next
first_refusal_or-next refuse rows value front next same =
    search (rules, first_refusal_or-chain refuse rows value next)

pub refusal-and_then : {Place A B E : Type 0} (refuse : ParseError → Place → E)
    (step : A → Result B E) (rows : List (Requirement Place)) (next : Result A E)
    → result_and_then step (first_refusal_or refuse rows next)
    ≡ first_refusal_or refuse rows (result_and_then step next)
refusal-and_then refuse step [] next = refl
refusal-and_then refuse step (row ∷ rows) next =
    search (rules, refusal-and_then refuse step rows next)

pub refusal-read : {A E : Type 0} (refuse : ParseError → ℕ → E) (rows : List TextRow) (value : A)
    (answer : Result A Refused) (met : Result (Unit {0}) E)
    → Ok value ≡ seen_as refuse answer → met ≡ first_refusal_or refuse rows (Ok tt)
    → result_and_then (λ (end : Unit {0}). Ok value) met
    ≡ seen_as refuse (result_and_then (λ (read : A). first_refused_or rows (Ok read)) answer)
refusal-read refuse rows value answer met read is =
    search (rules, refusal-and_then, first_refusal_or-view)

pub refusal-whole : {A E : Type 0} (refuse : ParseError → ℕ → E) (fault : A → ParseError)
    (text : List ℕ) (value : A) (size : ℕ) → length text ≡ size
    → with_no_more_or refuse fault text (value, size) ≡ Ok value
refusal-whole refuse fault text value size same = search rules

pub refusal-longer : {A E : Type 0} (refuse : ParseError → ℕ → E) (fault : A → ParseError)
    (text : List ℕ) (value : A) (size : ℕ) → (length text ≡ size → ⊥)
    → with_no_more_or refuse fault text (value, size) ≡ Err (refuse (fault value) size)
refusal-longer refuse fault text value size other = search rules

pub refusal-all : {Place A E : Type 0} (refuse : ParseError → Place → E)
    (rows : List (Requirement Place)) (next : Result A E)
    → AllHold rows → first_refusal_or refuse rows next ≡ next
refusal-all refuse [] next all = refl
refusal-all refuse (row ∷ rows) next all = search (rules, refusal-all refuse rows next)

pub refusal-ok : {Place A E : Type 0} (refuse : ParseError → Place → E)
    (rows : List (Requirement Place)) (next : Result A E)
    (value : A) → first_refusal_or refuse rows next ≡ Ok value → AllHold rows × (next ≡ Ok value)
refusal-ok refuse [] next value same = (tt, same)
refusal-ok refuse (row ∷ rows) next value same =
    search (rules, refusal-ok refuse rows next value)

pub refusal-value : {Place A E : Type 0} (refuse : ParseError → Place → E)
    (rows : List (Requirement Place)) (given value : A)
    → first_refusal_or refuse rows (Ok given) ≡ Ok value → AllHold rows × (given ≡ value)
refusal-value refuse rows given value same =
    search (rules, refusal-ok refuse rows (Ok given) value same)

-- a table after a table is the table of both
pub first_refusal_or-append : {Place A E : Type 0} (refuse : ParseError → Place → E)
    (first second : List (Requirement Place)) (next : Result A E)
    → first_refusal_or refuse first (first_refusal_or refuse second next)
    ≡ first_refusal_or refuse (first ++ second) next
first_refusal_or-append refuse [] second next = refl
first_refusal_or-append refuse (row ∷ first) second next =
    search (rules, first_refusal_or-append refuse first second next)

-- the rows of a part of a text refuse where the part does
pub first_refusal_or-moved : {A E : Type 0} (refuse : ParseError → ℕ → E) (start : ℕ)
    (rows : List TextRow) (next : Result A E)
    → first_refusal_or refuse (moved start rows) next
    ≡ first_refusal_or (shifted start refuse) rows next
first_refusal_or-moved refuse start [] next = refl
first_refusal_or-moved refuse start (row ∷ rows) next =
    search (rules, first_refusal_or-moved refuse start rows next)

-- a value seen in another way has no place, and a refusal keeps its own
pub refused_place_map : {A B : Type 0} (view : A → B) (answer : Result A Refused)
    (seen : Result B Refused) → result_map view answer ≡ seen
    → refused_place answer ≡ refused_place seen
refused_place_map view answer seen same = search rules

-- the place of a table's refusal is that of its first row that does not hold
first_place-is : {A : Type 0} (rows : List TextRow) (value : A)
    → refused_place (first_refusal_or placed rows (Ok value)) ≡ first_place rows
first_place-is [] value = refl
first_place-is (row ∷ rows) value = search (rules, first_place-is rows value)

-- so it is where the table of a part follows, which begins at a byte
pub first_place-tables : {A : Type 0} (first part : List TextRow) (start : ℕ) (value : A)
    (answer : Result A Refused)
    → answer ≡ first_refusal_or placed first
    (first_refusal_or (shifted start placed) part (Ok value))
    → refused_place answer ≡ first_place (first ++ moved start part)
first_place-tables first part start value answer same =
    search (rules, first_refusal_or-moved, first_refusal_or-append, first_place-is)

-- Answers as a kind of refusal shows them.

-- with its place it is the answer itself
pub seen_placed : {A : Type 0} (answer : Result A Refused) → seen_as placed answer ≡ answer
seen_placed answer = search rules

pub seen_then : {A B E : Type 0} (refuse : ParseError → ℕ → E) (step : A → Result B Refused)
    (answer : Result A Refused)
    → seen_as refuse (result_and_then step answer)
    ≡ result_and_then (λ (value : A). seen_as refuse (step value)) (seen_as refuse answer)
seen_then refuse step answer = search rules

pub seen_number : {A E : Type 0} (refuse : ParseError → ℕ → E) (number : Option (Result A Refused))
    (answer : Result A Refused)
    → seen_as refuse (or_number number answer)
    ≡ or_number (option_map (seen_as refuse) number) (seen_as refuse answer)
seen_number refuse number answer = search rules

-- so where no table lets a value through
pub seen_refused : {A E : Type 0} (refuse : ParseError → ℕ → E) (number : Option (Result A Refused))
    (answer : Result A Refused) (refusal : E)
    → seen_as refuse answer ≡ Err refusal
    → seen_as refuse (or_number number answer)
    ≡ or_number (option_map (seen_as refuse) number) (Err refusal)
seen_refused refuse number answer refusal same =
    seen_number refuse number answer ∙ ap (or_number (option_map (seen_as refuse) number)) same

pub seen-table : {A E : Type 0} (refuse : ParseError → ℕ → E) (rows : List TextRow)
    (next : Result A Refused)
    → seen_as refuse (first_refused_or rows next)
    ≡ first_refusal_or refuse rows (seen_as refuse next)
seen-table refuse rows next =
    first_refusal_or-view (λ refused. refuse refused.fault refused.place) placed rows next

-- a value is one whatever shows the refusals
pub seen-read : {A E : Type 0} (refuse : ParseError → ℕ → E) (answer : Result A Refused) (value : A)
    → seen_as refuse answer ≡ Ok value → answer ≡ Ok value
seen-read refuse answer value same = search rules

-- a refusal that keeps its fault shows that of the answer
pub seen-fault : {A E : Type 0} (fault_of : E → ParseError) (refuse : ParseError → ℕ → E)
    (answer : Result A Refused) (refusal : E)
    → ((fault : ParseError) (place : ℕ) → fault_of (refuse fault place) ≡ fault)
    → seen_as refuse answer ≡ Err refusal → without_place answer ≡ Err (fault_of refusal)
seen-fault fault_of refuse answer refusal keeps same = search (rules, keeps)

-- the answer to a part of a part begins at the sum of both places
pub seen-part : {A E : Type 0} (refuse : ParseError → ℕ → E) (start inner : ℕ)
    (answer : Result A Refused)
    → seen_as (shifted start refuse) (from_byte inner answer)
    ≡ seen_as (shifted (start + inner) refuse) answer
seen-part refuse start inner answer = search rules

-- a value seen in another way
pub seen-map : {A B E : Type 0} (refuse : ParseError → ℕ → E) (view : A → B)
    (answer : Result A Refused)
    → seen_as refuse (result_map view answer) ≡ result_map view (seen_as refuse answer)
seen-map refuse view answer = search rules

-- two tables, one after the other
pub seen-tables : {A E : Type 0} (refuse : ParseError → ℕ → E) (first second : List TextRow)
    (next : Result A Refused)
    → seen_as refuse (first_refused_or first (first_refused_or second next))
    ≡ first_refusal_or refuse first (first_refusal_or refuse second (seen_as refuse next))
seen-tables refuse first second next = search (rules, seen-table)

-- a value that is to be alone in its text
pub seen_alone : {A E : Type 0} (refuse : ParseError → ℕ → E) (fault : A → ParseError)
    (text : List ℕ) (front : Result (A × ℕ) Refused)
    → seen_as refuse (result_and_then (alone_or fault text) front)
    ≡ result_and_then (with_no_more_or refuse fault text) (seen_as refuse front)
seen_alone refuse fault text front = search rules

-- so what is alone is the value, what is longer is refused where the value ends, and a refusal
-- stays
pub seen_whole : {A E : Type 0} (refuse : ParseError → ℕ → E) (fault : A → ParseError)
    (text : List ℕ) (value : A) (size : ℕ) (front : Result (A × ℕ) Refused)
    → size ≡ length text → Ok (value, size) ≡ seen_as refuse front
    → Ok value ≡ seen_as refuse (result_and_then (alone_or fault text) front)
seen_whole refuse fault text value size front same read =
    sym (refusal-whole refuse fault text value size (sym same))
    ∙ ap (result_and_then (with_no_more_or refuse fault text)) read
    ∙ sym (seen_alone refuse fault text front)

pub seen_longer : {A E : Type 0} (refuse : ParseError → ℕ → E) (fault : A → ParseError)
    (text : List ℕ) (value : A) (size : ℕ) (front : Result (A × ℕ) Refused)
    → (size ≡ length text → ⊥) → Ok (value, size) ≡ seen_as refuse front
    → Err (refuse (fault value) size) ≡ seen_as refuse (result_and_then (alone_or fault text) front)
seen_longer refuse fault text value size front other read =
    sym (refusal-longer refuse fault text value size (λ same. other (sym same)))
    ∙ ap (result_and_then (with_no_more_or refuse fault text)) read
    ∙ sym (seen_alone refuse fault text front)

pub seen_stopped : {A B E : Type 0} (refuse : ParseError → ℕ → E) (step : A → Result B Refused)
    (front : Result A Refused) (refusal : E)
    → Err refusal ≡ seen_as refuse front
    → Err refusal ≡ seen_as refuse (result_and_then step front)
seen_stopped refuse step front refusal read = search rules

-- a number seen in another way, where no table lets a value through
pub seen-number_map : {A B E : Type 0} (refuse : ParseError → ℕ → E) (view : A → B)
    (number : Option (Result A Refused)) (refusal : E)
    → result_map view (or_number (option_map (seen_as refuse) number) (Err refusal))
    ≡ or_number (option_map (seen_as refuse) (option_map (result_map view) number)) (Err refusal)
seen-number_map refuse view number refusal = search (rules, seen-map)

-- the answer to a part
pub seen-from : {A E : Type 0} (refuse : ParseError → ℕ → E) (start : ℕ) (answer : Result A Refused)
    → seen_as refuse (from_byte start answer) ≡ seen_as (shifted start refuse) answer
seen-from refuse start answer = search rules

-- what tells the place of an answer
pub ruleset place_rules = (seen_placed, refused_place_map)
