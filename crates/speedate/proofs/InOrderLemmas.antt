-- Where the order of the standard is asked for, a duration is what the lax order makes of it, or is
-- refused for its order.
use Rattle.std.proofs.Common.{rules, arith, ap, sym, ◌∙◌, subst, inl, ◌≡◌, ℕ, zero, suc, ◌-◌, Bool, true, false, not, ◌&&◌, List, [], ◌∷◌, ◌++◌, length, take, drop, slice_index, ◌==◌, if◌then◌else◌, Option, Result, Ok, Err, refl, flat_map, is_some}
use Rattle.speedate_civil.specs.Base.{Behavior, IsoOrder, ParseError}
use Rattle.std.proofs.lemmas.Bool.{eqb-true, false≢true}
use Rattle.std.proofs.lemmas.Bool.Decides.{nat_tests}
use Rattle.std.proofs.lemmas.List.{append-nil, take-append-drop}
use Rattle.speedate_base.specs.Ascii.{capital_p}
use Rattle.speedate_base.specs.Numbers.{has_minus, sign_size}
use Rattle.speedate_base.proofs.NumberLemmas.{sign-of_text}
use Rattle.speedate_base.specs.Requirement.{fault_alone, first_fault_or, AllHold, result_and_then}
use Rattle.speedate.specs.DurationNumbers.{DurationNumbers, signed_form}
use Rattle.speedate_base.specs.Refused.{without_place}
use Rattle.speedate.specs.Duration.{duration_answer}
use Rattle.speedate.proofs.DurationAnswerLemmas.{duration_answer-form, iso_from-item}
use Rattle.speedate.proofs.DurationAnswerLemmas.{duration_answer-iso, duration_fault, fault_after}
use Rattle.speedate.proofs.DurationAnswerLemmas.{fault_after-byte, fault_after-end}
use Rattle.speedate.proofs.DurationAnswerLemmas.{fault_after-item, fault_form, fault_from}
use Rattle.speedate.specs.IsoOrder.{IsLaxOrRefused, IsAnswerInOrder, are_in_order, IsMadeOf, is_iso}
use Rattle.speedate.specs.IsoForm.{IsoUnit, units, unit_in, ComponentText, Item, TimeDesignator}
use Rattle.speedate.specs.IsoForm.{Component, item_text, item_at, item_table, units_after, IsoSums}
use Rattle.speedate.specs.IsoForm.{no_sums, with_component, with_item, with_items, AreGood}
use Rattle.speedate.specs.IsoForm.{sums_amount, Ends}
use Rattle.speedate.proofs.IsoFormLemmas.{Answer, answer-only, iso_after-is}
use Rattle.speedate_base.proofs.RefusalLemmas.{refusal-all}
use Rattle.speedate.proofs.IsoItemLemmas.{item_at-text}

-- sums after which any unit of the side may come, and those after which only some may
abbrev as_lax : IsoSums → IsoSums
as_lax sums = record sums { order = IsoOrder.Lax; next_units = units sums.is_time }

abbrev as_strict : List IsoUnit → IsoSums → IsoSums
as_strict next sums = record sums { order = IsoOrder.Strict; next_units = next }

-- an item adds the same to both
item-lax : (item : Item) (sums : IsoSums)
    → as_lax (with_item item sums) ≡ with_item item (as_lax sums)
item-lax item sums = search rules

-- a row that both tables have
row-both : (test : Bool) (fault : ParseError) (lax answer : Answer) → IsLaxOrRefused lax answer
    → IsLaxOrRefused (if test then lax else Err fault) (if test then answer else Err fault)
row-both test fault lax answer both = search rules

-- so the table of an item lets both through, refuses both alike, or refuses for the order
table-both : (sums : IsoSums) (item : Item) (lax answer : Answer) → IsLaxOrRefused lax answer
    → IsLaxOrRefused (first_fault_or (item_table (as_lax sums) item) lax)
    (first_fault_or (item_table sums item) answer)
table-both sums TimeDesignator lax answer both = row-both (not sums.is_time) _ lax answer both
table-both sums (Component component) lax answer both = search rules

-- after any items
iso-both : (skipped : ℕ) (sums : IsoSums) (text : List ℕ)
    → IsLaxOrRefused (fault_after skipped (as_lax sums) text) (fault_after skipped sums text)
iso-both skipped sums [] =
    inl (fault_after-end skipped sums ∙ sym (fault_after-end skipped (as_lax sums)))
iso-both zero sums (byte ∷ rest) =
    let item = item_at (byte ∷ rest) in
    let size = length (item_text item) - 1 in
    let later = with_item item sums in
    let strict = fault_after size later rest in
    let IsBoth = λ (next : IsoSums). IsLaxOrRefused (fault_after size next rest) strict in
    let both = subst IsBoth (item-lax item sums) (iso-both size later rest) in
    rw (fault_after-item (as_lax sums) byte rest, fault_after-item sums byte rest)
    (table-both sums item _ _ both)
iso-both (suc skipped) sums (byte ∷ rest) =
    search (rules, fault_after-byte, iso-both skipped sums rest)

-- so the answer in any order is the lax one, or the text is refused for its order
pub duration-both : (asked : IsoOrder) (behavior : Behavior) (text : List ℕ)
    → IsLaxOrRefused (duration_fault IsoOrder.Lax behavior text)
    (duration_fault asked behavior text)
duration-both asked behavior text = grind (arith, nat_tests, duration_answer-form, iso-both)

-- a component with a unit adds to the sums of the strict order what it adds to the others, and
-- leaves what follows its unit
component-strict : (unit : Option IsoUnit) (component : ComponentText)
    (next : List IsoUnit) (sums : IsoSums)
    → unit_in (units sums.is_time) component.designator ≡ unit
    → is_some unit ≡ true
    → as_strict (units_after component.designator next) (with_component unit component sums)
    ≡ with_component unit component (as_strict next sums)
component-strict unit component next sums is has = search (rules, false≢true)

-- what good items add up to
abbrev lax_end : IsoSums → Answer
lax_end sums = if sums.has_component then Ok (sums_amount sums) else Err ParseError.TooShort

abbrev strict_end : Bool → IsoSums → Answer
strict_end in_order sums = if in_order then lax_end sums else Err ParseError.DurationUnitOrder

-- an answer, or that a duration is not in order
abbrev in_order_or : {A : Type 0} → Bool → Result A ParseError → Result A ParseError
in_order_or in_order answer = if in_order then answer else Err ParseError.DurationUnitOrder

-- the strict table of a component that meets the lax one asks for its order alone
table-strict : (next : List IsoUnit) (sums : IsoSums) (component : ComponentText)
    (answer : Answer) → AllHold (item_table sums (Component component))
    → first_fault_or (item_table (as_strict next sums) (Component component)) answer
    ≡ in_order_or (is_some (unit_in next component.designator)) answer
table-strict next sums component answer all = search rules

strict-end : (comes in_order : Bool) (sums : IsoSums)
    → in_order_or comes (strict_end in_order sums) ≡ strict_end (comes && in_order) sums
strict-end comes in_order sums = search rules

-- so good items are refused if and only if they are not in order
items-strict : (next : List IsoUnit) (sums : IsoSums) (items : List Item) → AreGood sums items
    → fault_from (as_strict next sums) (flat_map item_text items)
    ≡ strict_end (are_in_order next items) (with_items items sums)
items-strict next sums [] good = fault_after-end 0 (as_strict next sums)
items-strict next sums (TimeDesignator ∷ items) good =
    iso_from-item (as_strict next sums) TimeDesignator (flat_map item_text items) refl
    ∙ refusal-all fault_alone (item_table sums TimeDesignator) _ good.1
    ∙ items-strict (units true) (with_item TimeDesignator sums) items good.2
items-strict next sums (Component component ∷ items) good =
    let item = Component component in
    let rest = flat_map item_text items in
    let after = units_after component.designator next in
    let unit = unit_in (units sums.is_time) component.designator in
    let later = with_item item sums in
    cc (
      iso_from-item (as_strict next sums) item rest (item_at-text sums item rest good.0 good.1),
      table-strict next sums component _ good.1,
      component-strict unit component next sums refl good.1.1.1.1.0,
      items-strict after later items good.2,
      strict-end (is_some (unit_in next component.designator)) (are_in_order after items)
          (with_items items later),
    )

-- and without the order they are what they add up to
items-lax : (sums : IsoSums) (items : List Item) → AreGood sums items
    → fault_from sums (flat_map item_text items) ≡ lax_end (with_items items sums)
items-lax sums items good =
    let text = flat_map item_text items in
    answer-only sums text _ _ (iso_after-is 0 sums text)
    (items, [], record { is_text = sym (append-nil text); are_good = good; ends = refl })

chosen : (positive in_order : Bool) (lax : Answer)
    → result_and_then (signed_form positive) (in_order_or in_order lax)
    ≡ in_order_or in_order (result_and_then (signed_form positive) lax)
chosen positive in_order lax = search rules

-- so a text of good items has what they add up to, with its sign
pub answer-made : (behavior : Behavior) (text : List ℕ) (items : List Item)
    → (is : IsMadeOf text items)
    → duration_fault IsoOrder.Lax behavior text
    ≡ result_and_then (signed_form (not is.negative))
    (lax_end (with_items items (no_sums IsoOrder.Lax)))
answer-made behavior text items is =
    let body = flat_map item_text items in
    cc (
      is.is_text,
      duration_answer-iso IsoOrder.Lax behavior is.negative is.sign body is.is_sign,
      items-lax (no_sums IsoOrder.Lax) items is.are_good,
    )

-- and is refused for its order if and only if they are not in order, and otherwise has the lax
-- answer
answer-strict : (asked : IsoOrder) (behavior : Behavior) (text : List ℕ) (items : List Item)
    → asked ≡ IsoOrder.Strict → IsMadeOf text items
    → duration_fault asked behavior text
    ≡ in_order_or (are_in_order (units false) items) (duration_fault IsoOrder.Lax behavior text)
answer-strict asked behavior text items strict is =
    let in_order = are_in_order (units false) items in
    let none = no_sums IsoOrder.Lax in
    let body = flat_map item_text items in
    cc (
      is.is_text,
      duration_answer-iso IsoOrder.Strict behavior is.negative is.sign body is.is_sign,
      items-strict (units false) none items is.are_good,
      chosen (not is.negative) in_order (lax_end (with_items items none)),
      answer-made behavior text items is,
    )

-- an ISO 8601 duration begins with a `P` after its sign
first-byte : (text : List ℕ) → (slice_index text 0 == capital_p) ≡ true
    → text ≡ capital_p ∷ drop 1 text
first-byte text is = search (rules, false≢true, eqb-true)

-- what is read has nothing after its good items, and a component among them
ends-read : (positive : Bool) (sums : IsoSums) (rest : List ℕ) (form : Answer)
    (numbers : DurationNumbers) → Ends sums rest form
    → Ok numbers ≡ result_and_then (signed_form positive) form
    → (rest ≡ []) × (sums.has_component ≡ true)
ends-read positive sums rest form numbers ends same = search rules

-- so an ISO 8601 duration that the lax order reads is made of good items
answer-items : (behavior : Behavior) (text : List ℕ) (numbers : DurationNumbers)
    → is_iso text ≡ true
    → duration_answer IsoOrder.Lax behavior text ≡ Ok numbers
    → (items : List Item) × IsMadeOf text items
answer-items behavior text numbers iso same =
    let sign : List ℕ = take (sign_size text) text in
    let rest = drop (sign_size text) text in
    let body : List ℕ = drop 1 rest in
    let is_sign = sign-of_text text in
    let begins : text ≡ sign ++ capital_p ∷ body =
    cc (take-append-drop (sign_size text) text, first-byte rest iso) in
    let negative = has_minus text in
    let read = sym (ap without_place same)
    ∙ ap (duration_fault IsoOrder.Lax behavior) begins
    ∙ duration_answer-iso IsoOrder.Lax behavior negative sign body is_sign in
    let from = iso_after-is 0 (no_sums IsoOrder.Lax) body in
    let sums = with_items from.0 (no_sums IsoOrder.Lax) in
    let form = fault_form IsoOrder.Lax body in
    let ended = ends-read (not negative) sums from.1 form numbers from.2.ends read in
    let is_made : IsMadeOf text from.0 = record {
      negative = has_minus text;
      sign = sign;
      is_sign = is_sign;
      are_good = from.2.are_good;
      some = ended.1;
      is_text = cc (begins, from.2.is_text, ended.0, append-nil (flat_map item_text from.0));
    } in
    (from.0, is_made)

-- the answer in the order that is asked for
pub duration_answer-in_order : (asked : IsoOrder) (behavior : Behavior) (text : List ℕ)
    (answer : Result DurationNumbers ParseError)
    → answer ≡ duration_fault asked behavior text → IsAnswerInOrder asked behavior text answer
duration_answer-in_order asked behavior text answer same =
    search (rules, duration-both, answer-items, answer-strict, duration_answer-form)
