-- How the answer to an ISO 8601 duration goes on from item to item.
use Rattle.std.proofs.Common.{rules, arith, ap, sym, ◌∙◌, lt_irrefl, ◌≡◌, ℕ, zero, suc, ◌-◌, ◌<◌, Bool, not, List, [], ◌∷◌, ◌++◌, ◌==◌, length, drop, slice_index, if◌then◌else◌, Result, Ok, Err, refl}
use Rattle.speedate_civil.specs.Base.{Behavior, IsoOrder, ParseError}
use Rattle.std.proofs.Math.Seq.{drop-append_seam}
use Rattle.std.proofs.lemmas.List.{length-append}
use Rattle.speedate_base.specs.Ascii.{capital_p}
use Rattle.speedate_base.specs.Numbers.{IsSign, has_minus, sign_size}
use Rattle.speedate_base.specs.Refused.{seen_as, without_place}
use Rattle.speedate_base.specs.declared.refusal.Refused.{Refused}
use Rattle.speedate_base.specs.Requirement.{fault_alone, first_fault_or, result_and_then}
use Rattle.speedate_base.proofs.RefusalLemmas.{seen-from, seen-table}
use Rattle.speedate.specs.Duration.{days_or_clock, duration_answer, iso_after, unsigned_answer}
use Rattle.speedate.specs.DurationNumbers.{DurationNumbers, UnsignedDuration, signed_form}
use Rattle.speedate.specs.IsoForm.{Item, item_text, IsoSums, item_at, item_table, no_sums}
use Rattle.speedate.specs.IsoForm.{with_item, sums_amount}

-- Answers with their faults alone.

abbrev pub fault_after : ℕ → IsoSums → List ℕ → Result UnsignedDuration ParseError
fault_after skipped sums text = without_place (iso_after skipped sums text)

abbrev pub fault_from : IsoSums → List ℕ → Result UnsignedDuration ParseError
fault_from sums text = fault_after 0 sums text

abbrev pub fault_form : IsoOrder → List ℕ → Result UnsignedDuration ParseError
fault_form order text = fault_from (no_sums order) text

abbrev pub duration_fault : IsoOrder → Behavior → List ℕ → Result DurationNumbers ParseError
duration_fault order behavior text = without_place (duration_answer order behavior text)

-- the row of an item, and then the answer to what is left
pub fault_after-item : (sums : IsoSums) (byte : ℕ) (rest : List ℕ)
    → fault_after 0 sums (byte ∷ rest)
    ≡ first_fault_or (item_table sums (item_at (byte ∷ rest)))
    (fault_after (length (item_text (item_at (byte ∷ rest))) - 1)
    (with_item (item_at (byte ∷ rest)) sums) rest)
unfolding iso_after
fault_after-item sums byte rest = search (rules, seen-table, seen-from)

pub fault_after-byte : (skipped : ℕ) (sums : IsoSums) (byte : ℕ) (rest : List ℕ)
    → fault_after (suc skipped) sums (byte ∷ rest) ≡ fault_after skipped sums rest
unfolding iso_after
fault_after-byte skipped sums byte rest = seen-from fault_alone 1 (iso_after skipped sums rest)

-- where nothing is left, it is what the items add up to
pub fault_after-end : (skipped : ℕ) (sums : IsoSums)
    → fault_after skipped sums []
    ≡ (if sums.has_component then Ok (sums_amount sums) else Err ParseError.TooShort)
unfolding iso_after
fault_after-end skipped sums = search rules

-- the answer after the bytes of an item
pub iso_after-skipped : (skipped : ℕ) (sums : IsoSums) (text : List ℕ)
    → fault_after skipped sums text ≡ fault_from sums (drop skipped text)
iso_after-skipped zero sums text = refl
iso_after-skipped (suc skipped) sums [] =
    fault_after-end (suc skipped) sums ∙ sym (fault_after-end 0 sums)
iso_after-skipped (suc skipped) sums (byte ∷ text) =
    fault_after-byte skipped sums byte text ∙ iso_after-skipped skipped sums text

-- an item has a byte
pub item_text-some : (item : Item) → 0 < length (item_text item)
item_text-some item = search (rules, length-append)

-- a text that is not empty has the row of the item that begins it, and then the answer to what
-- follows
pub iso_from-step : (sums : IsoSums) (text : List ℕ) → 0 < length text
    → fault_from sums text ≡ first_fault_or (item_table sums (item_at text))
    (fault_from (with_item (item_at text) sums) (drop (length (item_text (item_at text))) text))
iso_from-step sums [] some = absurd (lt_irrefl 0 some)
iso_from-step sums (byte ∷ rest) some =
    let item = item_at (byte ∷ rest) in
    let size = length (item_text item) in
    let one : suc (size - 1) ≡ size = omega (arith, item_text-some item) in
    fault_after-item sums byte rest
    ∙ ap (first_fault_or (item_table sums item))
    (iso_after-skipped (size - 1) (with_item item sums) rest
    ∙ ap (λ (n : ℕ). fault_from (with_item item sums) (drop n (byte ∷ rest))) one)

-- and where nothing is left, it is what the items add up to
pub iso_from-end : (sums : IsoSums) (text : List ℕ) → length text ≡ 0
    → fault_from sums text ≡ (if sums.has_component then Ok (sums_amount sums)
    else Err ParseError.TooShort)
iso_from-end sums [] none = fault_after-end 0 sums
iso_from-end sums (byte ∷ rest) none = absurd (cc)

-- an item that is read from its text has its row
pub iso_from-item : (sums : IsoSums) (item : Item) (rest : List ℕ)
    → item_at (item_text item ++ rest) ≡ item
    → fault_from sums (item_text item ++ rest)
    ≡ first_fault_or (item_table sums item) (fault_from (with_item item sums) rest)
iso_from-item sums item rest is =
    search (rules, length-append, item_text-some, iso_from-step, drop-append_seam)

-- a step after an answer, as a kind of refusal shows both
pub then-seen : {A B E : Type 0} (refuse : ParseError → ℕ → E) (step : A → Result B Refused)
    (seen : A → Result B E) (answer : Result A Refused)
    → ((value : A) → seen_as refuse (step value) ≡ seen value)
    → seen_as refuse (result_and_then step answer) ≡ result_and_then seen (seen_as refuse answer)
then-seen refuse step seen answer same = search rules

-- the answer by the form of the text
pub duration_answer-form : (order : IsoOrder) (behavior : Behavior) (text : List ℕ)
    → duration_fault order behavior text
    ≡ result_and_then (signed_form (not (has_minus text)))
    (if slice_index (drop (sign_size text) text) 0 == capital_p
    then fault_form order (drop 1 (drop (sign_size text) text))
    else without_place (days_or_clock behavior (drop (sign_size text) text)))
unfolding unsigned_answer
duration_answer-form order behavior text = search (rules, seen-from, then-seen, seen-table)

-- after a sign and a `P` the answer is that of ISO 8601
pub duration_answer-iso : (order : IsoOrder) (behavior : Behavior) (negative : Bool)
    (sign body : List ℕ) → IsSign negative sign
    → duration_fault order behavior (sign ++ capital_p ∷ body)
    ≡ result_and_then (signed_form (not negative)) (fault_form order body)
duration_answer-iso order behavior negative sign body is =
    duration_answer-form order behavior (sign ++ capital_p ∷ body) ∙ search rules
