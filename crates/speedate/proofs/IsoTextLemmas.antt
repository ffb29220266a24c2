-- The text by which a duration is printed is read as the duration.
use Rattle.std.proofs.Common.{rules, arith, ap, sym, ◌∙◌, append_assoc, lit<, ◌≡◌, ℕ, ◌+◌, ◌*◌, ◌/◌, ◌%◌, ◌^◌, ◌<◌, ◌≤◌, Bool, true, false, not, ◌&&◌, ◌==◌, if◌then◌else◌, List, [], ◌∷◌, ◌++◌, length, drop, Option, Some, Result, Ok, codes, refl, decimal, is_some}
use Rattle.speedate_civil.specs.Base.{Behavior, IsoOrder, ParseError}
use Rattle.std.proofs.lemmas.Int.{ints}
use Rattle.std.specs.Char.{is_ascii_digit}
use Rattle.std.specs.List.{list_all}
use Rattle.std.proofs.lemmas.Bool.{and_from, and_parts, eqb-true, lt-ltb, le-leb}
use Rattle.std.proofs.lemmas.Bool.Decides.{nat_tests}
use Rattle.std.proofs.lemmas.Fmt.{digits_decimal, digits_value-decimal, decimal_nonempty, decimal_digit}
use Rattle.std.proofs.lemmas.List.{append-nil}
use Rattle.std.proofs.lemmas.Str.Parse.{IsNumeralModel, numerals_by_weight}
use Rattle.speedate_base.specs.Ascii.{full_stop, capital_d, capital_h, capital_m, capital_s}
use Rattle.speedate_base.specs.Ascii.{capital_t, capital_y}
use Rattle.speedate_base.specs.Digits.{six_digit_text, digits_value}
use Rattle.speedate_base.specs.Requirement.{fault_alone, AllHold}
use Rattle.speedate_base.proofs.TextLemmas.{text-distinct}
use Rattle.speedate.specs.Duration.{duration_answer, counted_text}
use Rattle.speedate.specs.Duration.{without_last_zeros, short_fraction_text, seconds_text}
use Rattle.speedate.specs.Duration.{hours_text, days_text, rest_text, is_whole_days, duration_text}
use Rattle.speedate.proofs.DurationAnswerLemmas.{duration_answer-form, duration_fault, fault_form}
use Rattle.speedate.proofs.DurationAnswerLemmas.{fault_from, iso_from-end, iso_from-item}
use Rattle.speedate.proofs.IsoItemLemmas.{item_at-component}
use Rattle.speedate.specs.IsoOrder.{IsLaxOrRefused}
use Rattle.speedate.proofs.InOrderLemmas.{duration-both}
use Rattle.speedate.proofs.DurationLemmas.{normal_form-same}
use Rattle.speedate.specs.DurationNumbers.{DurationNumbers, UnsignedDuration, IsDuration}
use Rattle.speedate_base.proofs.RefusalLemmas.{refusal-all, seen-read}
use Rattle.speedate.specs.IsoForm.{IsoUnit, unit, units, unit_in, units_after, ComponentText}
use Rattle.speedate.specs.IsoForm.{TimeDesignator, Component, IsItem, IsFraction, IsoSums}
use Rattle.speedate.specs.IsoForm.{fraction_seconds, fraction_microseconds, with_number}
use Rattle.speedate.specs.IsoForm.{with_component, with_item, are_counted, item_table}

-- a number without leading zeros is digits that spell it
abbrev AreDigits : List ℕ → Type 0
AreDigits digits = list_all is_ascii_digit digits ≡ true

digits_model : IsNumeralModel AreDigits digits_value
digits_model = search (rules, numerals_by_weight)

-- no fraction is no seconds and no microseconds
no-seconds : (unit : IsoUnit) → fraction_seconds unit [] ≡ 0
no-seconds unit = omega arith

no-microseconds : (unit : IsoUnit) → fraction_microseconds unit [] ≡ 0
no-microseconds unit = search rules

-- sums in the order of the standard, with no fraction so far
abbrev at : List IsoUnit → Bool → Bool → ℕ → ℕ → IsoSums
at next is_time some day second =
    record {
      order = IsoOrder.Strict;
      next_units = next;
      is_time = is_time;
      has_fraction = false;
      has_component = some;
      day = day;
      second = second;
      microsecond = 0;
    }

-- a number, its fraction and its unit lead to the sums with that number of the unit
component-leads : (sums : IsoSums) (unit : IsoUnit) (number : ℕ) (fraction rest : List ℕ)
    → unit_in (units sums.is_time) unit.designator ≡ Some unit
    → is_some (unit_in sums.next_units unit.designator) ≡ true → sums.has_fraction ≡ false
    → IsFraction fraction → number ≤ 4294967295
    → (with_number unit number fraction sums).day ≤ 4294967295
    → (with_number unit number fraction sums).second ≤ 4294967295
    → fault_from sums (decimal number ++ fraction ++ unit.designator ∷ [] ++ rest)
    ≡ fault_from (with_number unit number fraction sums) rest
component-leads sums unit number fraction rest found comes whole is few few_days few_seconds =
    let component : ComponentText = record {
      number = decimal number;
      fraction = fraction;
      designator = unit.designator;
    } in
    let item = Component component in
    let after = with_number unit number fraction sums in
    let small : number < 2 ^ 64 = omega (arith, few) in
    let spelled = digits_value-decimal digits_model number small in
    let fits : digits_value (decimal number) ≤ 4294967295 = omega (arith, spelled, few) in
    let of_unit = ap (λ (one : Option IsoUnit). with_component one component sums) found in
    let of_number = ap (λ (n : ℕ). with_number unit n fraction sums) spelled in
    let sum : with_item item sums ≡ after = of_unit ∙ of_number in
    let counted = and_from _ _ (le-leb _ 4294967295 few_days) (le-leb _ 4294967295 few_seconds) in
    let digits = lt-ltb 0 (length (decimal number)) (decimal_nonempty number small) in
    let is_item : IsItem item = (digits_decimal digits_model number small, is) in
    let all : AllHold (item_table sums item) = (
      digits,
      (
        le-leb _ 4294967295 fits,
        (ap not whole, (ap is_some found, (comes, (ap are_counted sum ∙ counted, tt)))),
      ),
    ) in
    let front = item_at-component sums.is_time component rest is_item digits (ap is_some found) in
    iso_from-item sums item rest front
    ∙ refusal-all fault_alone (item_table sums item) _ all
    ∙ ap (λ (sums : IsoSums). fault_from sums rest) sum

-- a number and its unit, or nothing for none, lead to the sums with that number of the unit
counted-leads : (next : List IsoUnit) (is_time some none : Bool) (unit : IsoUnit)
    (number day second : ℕ) (rest : List ℕ) → (number == 0) ≡ none
    → unit_in (units is_time) unit.designator ≡ Some unit
    → is_some (unit_in next unit.designator) ≡ true → number ≤ 4294967295
    → day + number * unit.day ≤ 4294967295 → second + number * unit.second ≤ 4294967295
    → fault_from (at next is_time some day second)
    ((if none then [] else decimal number ++ unit.designator ∷ []) ++ rest)
    ≡ fault_from (at (if none then next else units_after unit.designator next) is_time
    (if none then some else true) (day + number * unit.day) (second + number * unit.second))
    rest
counted-leads next is_time some true unit number day second rest none found comes few few_days
    few_seconds = search (rules, eqb-true)
counted-leads next is_time some false unit number day second rest other found comes few few_days
    few_seconds =
    let sums = at next is_time some day second in
    let after = with_number unit number [] sums in
    let days : after.day ≡ day + number * unit.day = omega (arith, no-seconds unit) in
    let seconds : after.second ≡ second + number * unit.second = omega (arith, no-seconds unit) in
    let microseconds : after.microsecond ≡ 0 = omega (arith, no-microseconds unit) in
    let read = λ (digits : List ℕ). fault_from sums (digits ++ unit.designator ∷ [] ++ rest) in
    ap read (sym (append-nil (decimal number)))
    ∙ component-leads sums unit number [] rest found comes refl tt few
    (omega (arith, days, few_days)) (omega (arith, seconds, few_seconds))
    ∙ (λ i. fault_from (record after {
      day = days i;
      second = seconds i;
      microsecond = microseconds i;
    }) rest)

-- a fraction of a second that is printed is its microseconds
abbrev IsMicroseconds : List ℕ → ℕ → Type 0
IsMicroseconds fraction microsecond =
    IsFraction fraction × (fraction_seconds (unit capital_s 0 1) (drop 1 fraction) ≡ 0)
    × (fraction_microseconds (unit capital_s 0 1) (drop 1 fraction) ≡ microsecond)

fraction-of : (microsecond : ℕ) (none : Bool) → (microsecond == 0) ≡ none → microsecond ≤ 999999
    → IsMicroseconds
    (if none then [] else full_stop ∷ without_last_zeros (six_digit_text microsecond)) microsecond
fraction-of microsecond none other small =
    grind (arith, ints, nat_tests, other, small, eqb-true, no-seconds, no-microseconds)

-- seconds with their fraction are read as the end of a text
seconds-end : (next : List IsoUnit) (some : Bool) (number microsecond day second : ℕ)
    → is_some (unit_in next capital_s) ≡ true
    → number ≤ 4294967295 → microsecond ≤ 999999 → day ≤ 4294967295 → second + number ≤ 4294967295
    → fault_from (at next true some day second)
    (decimal number ++ short_fraction_text microsecond ++ capital_s ∷ [])
    ≡ Ok (record { day = day; second = second + number; microsecond = microsecond })
seconds-end next some number microsecond day second comes few small few_days few_seconds =
    let sums = at next true some day second in
    let fraction = short_fraction_text microsecond in
    let second_unit = unit capital_s 0 1 in
    let after = with_number second_unit number fraction sums in
    let means = fraction-of microsecond (microsecond == 0) refl small in
    let days : after.day ≡ day = omega (arith, means.1) in
    let seconds : after.second ≡ second + number = omega (arith, means.1) in
    let microseconds : after.microsecond ≡ microsecond = omega (arith, means.2) in
    ap (fault_from sums) (sym (append-nil (decimal number ++ fraction ++ capital_s ∷ [])))
    ∙ component-leads sums second_unit number fraction [] refl comes refl means.0 few
    (omega (arith, days, few_days)) (omega (arith, seconds, few_seconds))
    ∙ iso_from-end after [] refl
    ∙ (λ i. Ok (record {
      day = days i;
      second = seconds i;
      microsecond = microseconds i;
    }))

-- and where nothing is printed for none
seconds-read : (next : List IsoUnit) (some none : Bool) (number microsecond day second : ℕ)
    → ((number == 0) && (microsecond == 0)) ≡ none
    → is_some (unit_in next capital_s) ≡ true → number ≤ 4294967295 → microsecond ≤ 999999
    → day ≤ 4294967295 → second + number ≤ 4294967295
    → (if none then some else true) ≡ true
    → fault_from (at next true some day second)
    (if none then [] else decimal number ++ short_fraction_text microsecond ++ capital_s ∷ [])
    ≡ Ok (record { day = day; second = second + number; microsecond = microsecond })
seconds-read next some none number microsecond day second other comes few small few_days
    few_seconds has = search (rules, and_parts, eqb-true, iso_from-end, seconds-end)

-- the units that may still come
days-come : (years : Bool)
    → is_some (unit_in (if years then units false else units_after capital_y (units false))
    capital_d) ≡ true
days-come years = grind (arith, nat_tests)

minutes-come : (hours : Bool)
    → is_some (unit_in (if hours then units true else units_after capital_h (units true))
    capital_m) ≡ true
minutes-come hours = grind (arith, nat_tests)

seconds-come : (hours minutes : Bool)
    → (let next = if hours then units true else units_after capital_h (units true) in
    is_some (unit_in (if minutes then next else units_after capital_m next) capital_s)) ≡ true
seconds-come hours minutes = grind (arith, nat_tests)

-- there are days if and only if years or days of one are printed, and otherwise there is something
-- after the `T`
days-some : (day : ℕ) → (if day % 365 == 0 then (if day / 365 == 0 then false else true) else true)
    ≡ not (day == 0)
days-some day = grind (arith, nat_tests)

hours-some : (second microsecond : ℕ) (some : Bool) → ((second == 0) && (microsecond == 0)) ≡ false
    → (if (second % 60 == 0) && (microsecond == 0)
    then (if second / 60 % 60 == 0 then (if second / 3600 == 0 then some else true) else true)
    else true) ≡ true
hours-some second microsecond some other = grind (arith, nat_tests)

-- the amount of a duration
abbrev amount_of : DurationNumbers → UnsignedDuration
amount_of numbers =
    record { day = numbers.day; second = numbers.second; microsecond = numbers.microsecond }

-- hours, minutes and seconds are read as the end of a text
hours-read : (numbers : DurationNumbers) (some : Bool) → IsDuration numbers
    → is_whole_days numbers ≡ false
    → fault_from (at (units true) true some numbers.day 0) (hours_text numbers)
    ≡ Ok (amount_of numbers)
hours-read numbers some valid other =
    let day = numbers.day in
    let hour = numbers.second / 3600 in
    let minute = numbers.second / 60 % 60 in
    let second = numbers.second % 60 in
    let start = at (units true) true some day 0 in
    let hour_text = counted_text hour capital_h in
    let minute_text = counted_text minute capital_m in
    let last = seconds_text second numbers.microsecond in
    let after = minute_text ++ last in
    let hour_unit = unit capital_h 0 3600 in
    let minute_unit = unit capital_m 0 60 in
    let few : day ≤ 4294967295 = omega (arith, valid.day) in
    let day_is : day + hour * 0 + minute * 0 ≡ day = omega arith in
    let second_is : 0 + hour * 3600 + minute * 60 + second ≡ numbers.second = omega arith in
    let minutes = minutes-come (hour == 0) in
    let seconds = seconds-come (hour == 0) (minute == 0) in
    let has = hours-some numbers.second numbers.microsecond some other in
    ap (fault_from start) (append_assoc hour_text minute_text last)
    ∙ counted-leads (units true) true some (hour == 0) hour_unit hour day 0 after refl refl refl
    (omega (arith, valid.second)) (omega (arith, few)) (omega (arith, valid.second))
    ∙ counted-leads _ true _ (minute == 0) minute_unit minute _ _ last refl refl minutes
    (omega arith) (omega (arith, few)) (omega (arith, valid.second))
    ∙ seconds-read _ _ _ second numbers.microsecond _ _ refl seconds
    (omega arith) valid.microsecond (omega (arith, few)) (omega (arith, valid.second)) has
    ∙ (λ i. Ok (record { day = day_is i; second = second_is i; microsecond = numbers.microsecond }))

-- whole days end, and `T0S` stands where there are none
whole-read : (next : List IsoUnit) (day : ℕ) (none : Bool) → day ≤ 4294967295
    → fault_from (at next false (not none) day 0) (if none then codes "T0S" else [])
    ≡ Ok (record { day = day; second = 0; microsecond = 0 })
whole-read next day true few =
    let start = at (units true) true false day 0 in
    let zero_text = append-nil (decimal 0) ∙ decimal_digit 0 (lit< tt) in
    iso_from-item (at next false false day 0) TimeDesignator (codes "0S") refl
    ∙ ap (λ (digits : List ℕ). fault_from start (digits ++ capital_s ∷ [])) (sym zero_text)
    ∙ seconds-end (units true) false 0 0 day 0 refl (omega arith) (omega arith) few (omega arith)
whole-read next day false few = iso_from-end (at next false true day 0) [] refl

-- so is what follows the days
rest-read : (next : List IsoUnit) (numbers : DurationNumbers) (whole none : Bool)
    → IsDuration numbers → is_whole_days numbers ≡ whole
    → fault_from (at next false (not none) numbers.day 0)
    (if whole then (if none then codes "T0S" else []) else capital_t ∷ hours_text numbers)
    ≡ Ok (amount_of numbers)
rest-read next numbers true none valid whole = search (rules, and_parts, whole-read, eqb-true)
rest-read next numbers false none valid other =
    iso_from-item (at next false (not none) numbers.day 0) TimeDesignator (hours_text numbers) refl
    ∙ hours-read numbers (not none) valid other

text-read : (numbers : DurationNumbers) → IsDuration numbers
    → fault_form IsoOrder.Strict (days_text numbers ++ rest_text numbers) ≡ Ok (amount_of numbers)
text-read numbers valid =
    let year = numbers.day / 365 in
    let day = numbers.day % 365 in
    let year_text = counted_text year capital_y in
    let day_text = counted_text day capital_d in
    let rest = rest_text numbers in
    let after = day_text ++ rest in
    let left = if year == 0 then units false else units_after capital_y (units false) in
    let next = if day == 0 then left else units_after capital_d left in
    let days : 0 + year * 365 + day * 1 ≡ numbers.day = omega arith in
    let seconds : 0 + year * 0 + day * 0 ≡ 0 = omega arith in
    let year_unit = unit capital_y 365 0 in
    let day_unit = unit capital_d 1 0 in
    let come = days-come (year == 0) in
    ap (fault_form IsoOrder.Strict) (append_assoc year_text day_text rest)
    ∙ counted-leads (units false) false false (year == 0) year_unit year 0 0 after refl refl refl
    (omega (arith, valid.day)) (omega (arith, valid.day)) (omega arith)
    ∙ counted-leads left false _ (day == 0) day_unit day _ _ rest refl refl come
    (omega arith) (omega (arith, valid.day)) (omega arith)
    ∙ (λ i. fault_from (at next false (days-some numbers.day i) (days i) (seconds i)) rest)
    ∙ rest-read next numbers (is_whole_days numbers) (numbers.day == 0) valid refl

-- the printed text of a duration is answered by it where the order of the standard is asked for
strict-reads : (behavior : Behavior) (numbers : DurationNumbers) → IsDuration numbers
    → duration_fault IsoOrder.Strict behavior (duration_text numbers) ≡ Ok numbers
strict-reads behavior numbers valid =
    search (rules, append_assoc, duration_answer-form, text-read, normal_form-same)

-- so the lax order answers it too
lax-reads : {A : Type 0} (lax strict : Result A ParseError) (value : A) → IsLaxOrRefused lax strict
    → strict ≡ Ok value → lax ≡ Ok value
lax-reads lax strict value are read = search rules

pub duration_text-reads : (order : IsoOrder) (behavior : Behavior) (numbers : DurationNumbers)
    → IsDuration numbers
    → duration_answer order behavior (duration_text numbers) ≡ Ok numbers
duration_text-reads IsoOrder.Strict behavior numbers valid =
    let answer = duration_answer IsoOrder.Strict behavior (duration_text numbers) in
    seen-read fault_alone answer numbers (strict-reads behavior numbers valid)
duration_text-reads IsoOrder.Lax behavior numbers valid =
    let answer = duration_answer IsoOrder.Lax behavior (duration_text numbers) in
    let both = duration-both IsoOrder.Strict behavior (duration_text numbers) in
    seen-read fault_alone answer numbers
    (lax-reads _ _ numbers both (strict-reads behavior numbers valid))

-- so two durations with the same text are equal
pub duration_text-distinct : (first second : DurationNumbers) → IsDuration first
    → IsDuration second → duration_text first ≡ duration_text second → first ≡ second
duration_text-distinct first second one two =
    let answer = duration_answer IsoOrder.Lax Behavior.Error in
    let reads = duration_text-reads IsoOrder.Lax Behavior.Error in
    text-distinct duration_text answer first second (reads first one) (reads second two)
