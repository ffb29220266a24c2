-- Items of ISO 8601 durations and the texts that begin with them, and the places of their units.
use Rattle.std.proofs.Common.{rules, arith, ap, sym, ◌∙◌, append_assoc, ◌≡◌, ℕ, suc, ◌+◌, ◌-◌, ◌<◌, ◌≤◌, Bool, true, false, List, [], ◌∷◌, ◌++◌, length, take, drop, slice_index, nat_lt, ◌==◌, if◌then◌else◌, refl, zero, nat_le, is_some}
use Rattle.std.proofs.lemmas.Int.{ints}
use Rattle.std.specs.Char.{is_ascii_digit}
use Rattle.std.specs.List.{list_all, prefix_len}
use Rattle.std.proofs.Math.Seq.{take-append_seam, drop-append_seam, get_or-append_seam, drop-nil}
use Rattle.std.proofs.lemmas.Bool.{and_parts, eqb-true, false≢true, le-leb}
use Rattle.std.proofs.lemmas.Bool.Decides.{nat_tests}
use Rattle.std.proofs.lemmas.List.{drop-take, drop-drop, drop_more, take-append-drop, get_or_past, length-append, length-take-le}
use Rattle.std.proofs.lemmas.List.Sums.{prefix_len-le-length}
use Rattle.speedate_base.specs.Ascii.{capital_t}
use Rattle.speedate_base.specs.Digits.{run_length, is_decimal_mark}
use Rattle.speedate_base.proofs.DigitRunLemmas.{run_length-append}
use Rattle.speedate_base.proofs.NumberLemmas.{run-digits}
use Rattle.speedate_base.specs.Requirement.{AllHold}
use Rattle.speedate.specs.IsoForm.{IsoUnit, units, unit_in, ComponentText, Item, TimeDesignator}
use Rattle.speedate.specs.IsoForm.{Component, item_text, IsFraction, IsItem, fraction_size}
use Rattle.speedate.specs.IsoForm.{component_at, item_at, IsoSums, item_table}
use Rattle.speedate.specs.IsoParts.{unit_place}

-- the designator of a unit is no digit and no decimal mark
unit-designator : (is_time : Bool) (designator : ℕ)
    → is_some (unit_in (units is_time) designator) ≡ true
    → (is_ascii_digit designator ≡ false) × (is_decimal_mark designator ≡ false)
unit-designator is_time designator has = search rules

-- digits end before a byte that is none
run-end : (digits : List ℕ) (byte : ℕ) (rest : List ℕ) → list_all is_ascii_digit digits ≡ true
    → is_ascii_digit byte ≡ false
    → prefix_len is_ascii_digit (digits ++ byte ∷ rest) ≡ length digits
run-end digits byte rest all other =
    run_length-append digits (byte ∷ rest) all ∙ rw other (omega arith)

-- a fraction ends before a designator
fraction-end : (fraction : List ℕ) (designator : ℕ) (rest : List ℕ) → IsFraction fraction
    → is_ascii_digit designator ≡ false → is_decimal_mark designator ≡ false
    → fraction_size (fraction ++ designator ∷ rest) ≡ length fraction
fraction-end fraction designator rest is digit point = search (rules, run-end)

-- digits begin with no `T`
number-no_designator : (number rest : List ℕ) → nat_lt 0 (length number) ≡ true
    → list_all is_ascii_digit number ≡ true
    → (slice_index (number ++ rest) 0 == capital_t) ≡ false
number-no_designator [] rest some all = absurd (cc)
number-no_designator (digit ∷ number) rest some all =
    grind (arith, nat_tests, (and_parts (is_ascii_digit digit) _ all).0)

-- the beginning of a component's text is the component
component_at-text : (component : ComponentText) (rest : List ℕ) → IsItem (Component component)
    → is_ascii_digit component.designator ≡ false → is_decimal_mark component.designator ≡ false
    → component_at (component.number ++ (component.fraction ++ component.designator ∷ rest))
    ≡ component
component_at-text component rest is digit point =
    search (rules, run-end, take-append_seam, drop-append_seam, fraction-end, get_or-append_seam)

-- its text is its parts before what follows
component-joined : (component : ComponentText) (rest : List ℕ)
    → item_text (Component component) ++ rest
    ≡ component.number ++ (component.fraction ++ component.designator ∷ rest)
component-joined component rest = simp append_assoc

-- so what begins with a number and ends with the designator of a unit is one item, whatever follows
pub item_at-component : (is_time : Bool) (component : ComponentText) (rest : List ℕ)
    → IsItem (Component component) → nat_lt 0 (length component.number) ≡ true
    → is_some (unit_in (units is_time) component.designator) ≡ true
    → item_at (item_text (Component component) ++ rest) ≡ Component component
item_at-component is_time component rest is some has =
    search (rules, unit-designator, component-joined, number-no_designator, component_at-text)

-- and a good item is read back from its text
pub item_at-text : (sums : IsoSums) (item : Item) (rest : List ℕ) → IsItem item
    → AllHold (item_table sums item) → item_at (item_text item ++ rest) ≡ item
item_at-text sums item rest is all = search (rules, item_at-component)

-- after a decimal mark stand digits
digits-after : (text : List ℕ) (has_mark : Bool)
    → list_all is_ascii_digit (drop 1 (take (if has_mark then 1 + run_length text 1 else 0) text))
    ≡ true
digits-after text true =
    ap (list_all is_ascii_digit) (drop-take 1 (run_length text 1) text) ∙ run-digits (drop 1 text)
digits-after text false = refl

pub fraction-digits : (text : List ℕ)
    → list_all is_ascii_digit (drop 1 (take (fraction_size text) text)) ≡ true
fraction-digits text = digits-after text (is_decimal_mark (slice_index text 0))

-- what the reader of a component cites
pub ruleset component_rules = (nat_tests, fraction-digits)

-- what has the length of a fraction is one
fraction-front : (text : List ℕ) (has_mark : Bool)
    → is_decimal_mark (slice_index text 0) ≡ has_mark
    → IsFraction (take (if has_mark then 1 + run_length text 1 else 0) text)
fraction-front text false same = grind (arith, ints, nat_tests, false≢true, run-digits)
fraction-front [] true same = grind (arith, ints, nat_tests, false≢true, run-digits)
fraction-front (mark ∷ text) true same = grind (arith, ints, nat_tests, false≢true, run-digits)

-- how many bytes a component has, from the lengths of its parts
component-size : (text : List ℕ)
    → fraction_size (drop (run_length text 0) text) ≤ length (drop (run_length text 0) text)
    → length (item_text (Component (component_at text)))
    ≡ run_length text 0 + fraction_size (drop (run_length text 0) text) + 1
component-size text within = search (rules, length-take-le, prefix_len-le-length, length-append)

-- a designator with a unit stands within its text
designator-within : (is_time : Bool) (text : List ℕ) (place : ℕ)
    → is_some (unit_in (units is_time) (slice_index text place)) ≡ true → place < length text
designator-within is_time text place some = search (rules, get_or_past)

-- a text by its parts
parted : (text : List ℕ) (n m : ℕ) → m < length (drop n text)
    → text ≡ (take n text ++ take m (drop n text) ++ slice_index (drop n text) m ∷ [])
    ++ drop (n + m + 1) text
parted text n m within = search (rules, drop_more, drop-drop, append_assoc, take-append-drop)

-- what begins a text as an item and meets the table is an item, and the text is its text and the
-- rest
abbrev IsFront : IsoSums → ℕ → List ℕ → Item → Type 0
IsFront sums byte rest item =
    AllHold (item_table sums item)
    → IsItem item × (byte ∷ rest ≡ item_text item ++ drop (length (item_text item) - 1) rest)

front-of : (sums : IsoSums) (byte : ℕ) (rest : List ℕ) (is_time : Bool)
    → (byte == capital_t) ≡ is_time
    → IsFront sums byte rest
    (if is_time then TimeDesignator else Component (component_at (byte ∷ rest)))
front-of sums byte rest true same hold =
    (tt, ap (λ (byte : ℕ). byte ∷ rest) (eqb-true byte capital_t same))
front-of sums byte rest false same hold =
    let text : List ℕ = byte ∷ rest in
    let count = run_length text 0 in
    let later = drop count text in
    let size = fraction_size later in
    let within = designator-within sums.is_time later size hold.1.1.1.0 in
    let bytes : List ℕ = item_text (Component (component_at text)) in
    let long = component-size text (omega (arith, within)) in
    let sized : count + size + 1 ≡ suc (length bytes - 1) = omega (arith, long) in
    let fraction = fraction-front later (is_decimal_mark (slice_index later 0)) refl in
    let parts = parted text count size within in
    ((run-digits text, fraction), parts ∙ ap (λ (n : ℕ). bytes ++ drop n text) sized)

pub item-front : (sums : IsoSums) (byte : ℕ) (rest : List ℕ)
    → IsFront sums byte rest (item_at (byte ∷ rest))
item-front sums byte rest = front-of sums byte rest (byte == capital_t) refl

-- a unit is among those from a place on if and only if its own place is none before that
pub unit-from : (is_time : Bool) (passed designator : ℕ)
    → is_some (unit_in (units is_time) designator) ≡ true
    → is_some (unit_in (drop passed (units is_time)) designator)
    ≡ nat_le passed (unit_place designator (units is_time))
unit-from is_time zero designator has =
    has ∙ sym (le-leb zero (unit_place designator (units is_time)) (omega arith))
unit-from false (suc zero) designator has = grind (arith, nat_tests, has)
unit-from false (suc (suc zero)) designator has = grind (arith, nat_tests, has)
unit-from false (suc (suc (suc zero))) designator has = grind (arith, nat_tests, has)
unit-from false (suc (suc (suc (suc passed)))) designator has =
    rw (drop-nil {A = IsoUnit} passed) (grind (arith, nat_tests, has))
unit-from true (suc zero) designator has = grind (arith, nat_tests, has)
unit-from true (suc (suc zero)) designator has = grind (arith, nat_tests, has)
unit-from true (suc (suc (suc passed))) designator has =
    rw (drop-nil {A = IsoUnit} passed) (grind (arith, nat_tests, has))

-- what the test of a unit's place cites
pub ruleset place_rules = (nat_tests, unit-from)
