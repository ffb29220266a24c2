-- What is read of an ISO 8601 duration is the sum of the amounts of its items.
use Rattle.std.proofs.Common.{rules, arith, ap, sym, ◌∙◌, subst, ◌≡◌, ℕ, ◌+◌, ◌*◌, Bool, true, false, not, List, [], ◌∷◌, ◌++◌, drop, if◌then◌else◌, Option, Some, None, Result, Ok, Err, IfOk, refl, is_some}
use Rattle.speedate_civil.specs.Base.{Behavior, IsoOrder, ParseError}
use Rattle.std.proofs.lemmas.Bool.{false≢true}
use Rattle.speedate_base.specs.Ascii.{capital_p}
use Rattle.speedate_base.specs.Digits.{digits_value}
use Rattle.speedate_base.specs.Numbers.{has_minus, IsSign}
use Rattle.speedate_base.specs.Requirement.{fault_alone, result_and_then}
use Rattle.speedate_base.specs.Timestamp.{seconds_per_day}
use Rattle.speedate.specs.Duration.{duration_numbers, ◌gives◌, Duration}
use Rattle.speedate.proofs.DurationAnswerLemmas.{duration_fault}
use Rattle.speedate.proofs.FractionLemmas.{fraction_amount, fraction_amount-is}
use Rattle.speedate.specs.DurationNumbers.{DurationNumbers, amount_microseconds, of_amount}
use Rattle.speedate.specs.DurationNumbers.{UnsignedDuration, normal_table, signed_form}
use Rattle.speedate.specs.IsoForm.{IsoUnit, units, unit_in, ComponentText, Item, TimeDesignator}
use Rattle.speedate.specs.IsoForm.{Component, IsoSums, no_sums, with_component, with_item}
use Rattle.speedate.specs.IsoForm.{with_items, AreGood, sums_amount}
use Rattle.speedate.specs.IsoAmount.{unit_microseconds, IsComponentAmount, IsSumOf, IsAmountOf}
use Rattle.speedate.specs.IsoOrder.{IsMadeOf}
use Rattle.speedate_base.proofs.RefusalLemmas.{refusal-value}
use Rattle.speedate.proofs.InOrderLemmas.{answer-made, duration-both}

-- an answer in any order is the lax one
lax-of_read : (asked : IsoOrder) (behavior : Behavior) (text : List ℕ) (numbers : DurationNumbers)
    → duration_fault asked behavior text ≡ Ok numbers
    → duration_fault IsoOrder.Lax behavior text ≡ Ok numbers
lax-of_read asked behavior text numbers same = search (rules, duration-both)

-- the microseconds of sums
abbrev total : IsoSums → ℕ
total sums = (sums.day * seconds_per_day + sums.second) * 1000000 + sums.microsecond

-- the amount of a component of a unit
abbrev component_amount : IsoUnit → ComponentText → ℕ
component_amount unit component =
    digits_value component.number * unit_microseconds unit
    + fraction_amount unit (drop 1 component.fraction)

-- a component adds it to the sums
component-adds : (unit : IsoUnit) (component : ComponentText) (sums : IsoSums)
    → total (with_component (Some unit) component sums)
    ≡ total sums + component_amount unit component
component-adds unit component sums = grind arith

component_amount-is : (unit : IsoUnit) (component : ComponentText) (is_time : Bool)
    → unit_in (units is_time) component.designator ≡ Some unit
    → IsComponentAmount is_time component (component_amount unit component)
component_amount-is unit component is_time is = record {
  unit = unit;
  fraction = fraction_amount unit (drop 1 component.fraction);
  is_unit = is;
  is_fraction = fraction_amount-is unit (drop 1 component.fraction);
  is_amount = refl;
}

-- items add a sum to sums
abbrev AddsSum : Bool → List Item → IsoSums → IsoSums → Type 0
AddsSum is_time items sums after =
    (sum : ℕ) × IsSumOf is_time items sum × (total after ≡ total sums + sum)

component-sum : (unit : Option IsoUnit) (component : ComponentText) (items : List Item)
    (sums after : IsoSums)
    → unit_in (units sums.is_time) component.designator ≡ unit → is_some unit ≡ true
    → AddsSum (with_component unit component sums).is_time items
    (with_component unit component sums) after
    → AddsSum sums.is_time (Component component ∷ items) sums after
component-sum None component items sums after is has adds = absurd (false≢true has)
component-sum (Some unit) component items sums after is has adds =
    let amount = component_amount unit component in
    let sum = amount + adds.0 in
    let more = component-adds unit component sums in
    let joined : total after ≡ total sums + sum = omega (arith, adds.2, more) in
    let one = component_amount-is unit component sums.is_time is in
    (sum, (amount, adds.0, one, adds.1, refl), joined)

-- so good items add the sum of their amounts
items-sum : (sums : IsoSums) (items : List Item) → AreGood sums items
    → AddsSum sums.is_time items sums (with_items items sums)
items-sum sums [] good = (0, refl, omega arith)
items-sum sums (TimeDesignator ∷ items) good =
    items-sum (with_item TimeDesignator sums) items good.2
items-sum sums (Component component ∷ items) good =
    let unit = unit_in (units sums.is_time) component.designator in
    let later = with_item (Component component) sums in
    let others = items-sum later items good.2 in
    component-sum unit component items sums (with_items items later) refl good.1.1.1.1.0 others

-- the numbers that have an amount have it
amount-kept : (positive : Bool) (amount : ℕ)
    → amount_microseconds (of_amount positive amount) ≡ amount
amount-kept positive amount = omega arith

-- a text begins with its sign
minus-of_sign : (negative : Bool) (sign rest : List ℕ) → IsSign negative sign
    → has_minus (sign ++ capital_p ∷ rest) ≡ negative
minus-of_sign negative sign rest is = search rules

-- the answer to good items, by whether a component is among them
abbrev end_answer : IsoSums → Bool → Result UnsignedDuration ParseError
end_answer sums some = if some then Ok (sums_amount sums) else Err ParseError.TooShort

-- so the numbers that are read of a text of good items have the sum of their amounts, and the sign
-- of the text
answer-amount : (asked : IsoOrder) (behavior : Behavior) (text : List ℕ) (items : List Item)
    (numbers : DurationNumbers)
    → duration_fault asked behavior text ≡ Ok numbers → IsMadeOf text items
    → IsAmountOf text items numbers
answer-amount asked behavior text items numbers same is =
    let sums = with_items items (no_sums IsoOrder.Lax) in
    let adds = items-sum (no_sums IsoOrder.Lax) items is.are_good in
    let positive = not is.negative in
    let made = sym (answer-made behavior text items is) in
    let read = made ∙ lax-of_read asked behavior text numbers same in
    let answer = λ (some : Bool). result_and_then (signed_form positive) (end_answer sums some) in
    let ended = ap answer (sym is.some) ∙ read in
    let given : DurationNumbers = record {
      positive = positive;
      day = sums.day;
      second = sums.second;
      microsecond = sums.microsecond;
    } in
    let normal = of_amount positive (amount_microseconds given) in
    let form = refusal-value fault_alone (normal_table given) normal numbers ended in
    let sum : total sums ≡ adds.0 = omega (arith, adds.2) in
    let amount = ap amount_microseconds (sym form.1) ∙ amount-kept positive (total sums) ∙ sum in
    record {
      amount = subst (IsSumOf false items) (sym amount) adds.1;
      sign = ap (λ (numbers : DurationNumbers). numbers.positive) (sym form.1)
          ∙ ap not (sym (ap has_minus is.is_text ∙ minus-of_sign is.negative is.sign _ is.is_sign));
    }

-- and so has the duration
pub duration_answer-amount : (asked : IsoOrder) (behavior : Behavior) (text : List ℕ)
    (result : Result Duration ParseError)
    → result gives duration_fault asked behavior text
    → IfOk result (λ value. (items : List Item) → IsMadeOf text items
    → IsAmountOf text items (duration_numbers value))
duration_answer-amount asked behavior text (Ok value) same =
    λ items is. answer-amount asked behavior text items (duration_numbers value) (sym same) is
duration_answer-amount asked behavior text (Err fault) same = tt
