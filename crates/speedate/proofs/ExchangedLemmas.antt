-- In the lax order the answer to a text of a duration does not depend on the order of two
-- neighbouring components of one side.
use Rattle.std.proofs.Common.{rules, arith, ap, ◌∙◌, append_assoc, ◌≡◌, ℕ, Bool, ◌&&◌, List, [], ◌∷◌, ◌++◌, nat_le, if◌then◌else◌, Result, Err, refl, flat_map}
use Rattle.speedate_civil.specs.Base.{Behavior, IsoOrder, ParseError}
use Rattle.std.proofs.lemmas.Bool.Decides.{nat_tests}
use Rattle.speedate_base.specs.Digits.{digits_value}
use Rattle.speedate_base.specs.Requirement.{first_fault_or}
use Rattle.speedate.proofs.DurationAnswerLemmas.{duration_answer-iso, duration_fault, fault_from}
use Rattle.speedate.proofs.DurationAnswerLemmas.{iso_from-item}
use Rattle.speedate.specs.DurationNumbers.{DurationNumbers, UnsignedDuration}
use Rattle.speedate.specs.IsoOrder.{IsWhole, AreWhole, IsPlain, AreExchanged}
use Rattle.speedate.specs.IsoForm.{units, ComponentText, Item, Component, item_text}
use Rattle.speedate.specs.IsoForm.{item_at, item_table, IsoSums, no_sums, with_item, with_items}
use Rattle.speedate.proofs.IsoItemLemmas.{item_at-component}

-- what is one item by its bytes is read as it, whatever follows
item_at-whole : (sums : IsoSums) (item : Item) (rest : List ℕ) → IsWhole sums item
    → item_at (item_text item ++ rest) ≡ item
item_at-whole sums item rest whole = search (rules, item_at-component)

-- sums after which any unit may come
abbrev IsFree : IsoSums → Type 0
IsFree sums = (sums.order ≡ IsoOrder.Lax) × (sums.next_units ≡ units sums.is_time)

-- in the lax order those after an item are such sums again
item-free : (item : Item) (sums : IsoSums) → IsFree sums → IsFree (with_item item sums)
item-free item sums free = search rules

-- whether its number and the sums with it are counted in 32 bits
abbrev fits : IsoSums → ComponentText → Bool
fits sums component =
    nat_le (digits_value component.number) 4294967295
    && (nat_le (with_item (Component component) sums).day 4294967295
    && nat_le (with_item (Component component) sums).second 4294967295)

-- two rows with the same fault can be joined
two-rows : {A : Type 0} (number sums : Bool) (fault : ParseError) (next : Result A ParseError)
    → (if number then (if sums then next else Err fault) else Err fault)
    ≡ (if number && sums then next else Err fault)
two-rows number sums fault next = search rules

-- the table of a component that can be refused for its size alone is that test
plain-table : {A : Type 0} (sums : IsoSums) (component : ComponentText) (next : Result A ParseError)
    → IsFree sums → IsPlain sums component
    → first_fault_or (item_table sums (Component component)) next
    ≡ (if fits sums component then next else Err ParseError.DurationValueTooLarge)
plain-table sums component next free plain = search rules

-- so the sums of two components do not depend on their order
sums-exchanged : (first second : ComponentText) (sums : IsoSums) → IsFree sums
    → with_item (Component second) (with_item (Component first) sums)
    ≡ with_item (Component first) (with_item (Component second) sums)
sums-exchanged first second sums free = search rules

-- a component after another one can still be refused for its size alone
plain-next : (sums : IsoSums) (first second : ComponentText) → IsPlain sums first
    → IsPlain sums second → IsPlain (with_item (Component first) sums) second
plain-next sums first second one two = search rules

-- an answer, or that a number is too large
abbrev fitting_or : Bool → Result UnsignedDuration ParseError → Result UnsignedDuration ParseError
fitting_or fit answer = if fit then answer else Err ParseError.DurationValueTooLarge

-- two components before a text
abbrev pair_text : ComponentText → ComponentText → List ℕ → List ℕ
pair_text first second rest =
    item_text (Component first) ++ (item_text (Component second) ++ rest)

-- the answer to two components and what follows: that after them where both fit
pair-answer : (sums : IsoSums) (first second : ComponentText) (rest : List ℕ) → IsFree sums
    → IsPlain sums first → IsPlain sums second
    → fault_from sums (pair_text first second rest)
    ≡ fitting_or (fits sums first && fits (with_item (Component first) sums) second)
    (fault_from (with_item (Component second) (with_item (Component first) sums)) rest)
pair-answer sums first second rest free one two =
    let item = Component first in
    let other = Component second in
    let next = with_item item sums in
    let last = fault_from (with_item other next) rest in
    let after = item_text other ++ rest in
    let plain = plain-next sums first second one two in
    cc (
      iso_from-item sums item after (item_at-whole sums item after one.0),
      plain-table sums first _ free one,
      iso_from-item next other rest (item_at-whole next other rest plain.0),
      plain-table next second last (item-free item sums free) plain,
      two-rows (fits sums first) (fits next second) ParseError.DurationValueTooLarge last,
    )

-- it does not depend on their order
pair-exchanged : (sums : IsoSums) (first second : ComponentText) (rest : List ℕ) → IsFree sums
    → IsPlain sums first → IsPlain sums second
    → fault_from sums (pair_text first second rest) ≡ fault_from sums (pair_text second first rest)
pair-exchanged sums first second rest free one two =
    grind (arith, nat_tests, pair-answer, sums-exchanged)

-- an item before others is judged first
item-first : (sums : IsoSums) (item : Item) (items : List Item) (text : List ℕ)
    → IsWhole sums item
    → fault_from sums (flat_map item_text (item ∷ items) ++ text)
    ≡ first_fault_or (item_table sums item)
    (fault_from (with_item item sums) (flat_map item_text items ++ text))
item-first sums item items text whole =
    let rest = flat_map item_text items ++ text in
    ap (fault_from sums) (append_assoc (item_text item) (flat_map item_text items) text)
    ∙ iso_from-item sums item rest (item_at-whole sums item rest whole)

-- nor where they stand after items, whether these are refused or not
after-exchanged : (sums : IsoSums) (items : List Item) (first second : ComponentText)
    (rest : List ℕ)
    → IsFree sums → AreWhole sums items
    → IsPlain (with_items items sums) first → IsPlain (with_items items sums) second
    → fault_from sums (flat_map item_text items ++ pair_text first second rest)
    ≡ fault_from sums (flat_map item_text items ++ pair_text second first rest)
after-exchanged sums [] first second rest free whole one two =
    pair-exchanged sums first second rest free one two
after-exchanged sums (item ∷ items) first second rest free whole one two =
    let later = with_item item sums in
    let free_later = item-free item sums free in
    cc (
      after-exchanged later items first second rest free_later whole.1 one two,
      item-first sums item items (pair_text first second rest) whole.0,
      item-first sums item items (pair_text second first rest) whole.0,
    )

-- texts that differ only in that order have the same answer
pub duration_answer-exchanged : (asked : IsoOrder) (behavior : Behavior) (one two : List ℕ)
    (answer : Result DurationNumbers ParseError)
    → answer ≡ duration_fault asked behavior one → asked ≡ IsoOrder.Lax → AreExchanged one two
    → answer ≡ duration_fault asked behavior two
duration_answer-exchanged asked behavior one two answer is lax are =
    let items = flat_map item_text are.items in
    let first = item_text (Component are.first) in
    let second = item_text (Component are.second) in
    let after = after-exchanged (no_sums IsoOrder.Lax) are.items are.first are.second are.rest in
    let form = duration_answer-iso IsoOrder.Lax behavior are.negative are.sign in
    cc (
      is,
      lax,
      are.is_one,
      are.is_two,
      form (items ++ (first ++ (second ++ are.rest))) are.is_sign,
      form (items ++ (second ++ (first ++ are.rest))) are.is_sign,
      after (refl, refl) are.are_whole are.is_plain_first are.is_plain_second,
    )
