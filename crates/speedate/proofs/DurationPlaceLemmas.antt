-- How the items of an ISO 8601 duration follow one another, with the places of what is refused.
use Rattle.std.proofs.Common.{rules, ◌≡◌, ◌≤◌, ◌<◌, ◌+◌, ◌-◌, ◌∙◌, ℕ, zero, suc, Bool, true, false, not, List, [], ◌∷◌, length, drop, slice_index, if◌then◌else◌, Result, Ok, Err, refl, sym, ap, arith, lt_irrefl, zero-add}
use Rattle.std.proofs.lemmas.Bool.Decides.{nat_tests}
use Rattle.std.proofs.lemmas.List.{length-drop, take_rest}
use Rattle.speedate_civil.specs.Base.{Behavior, IsoOrder, ParseError}
use Rattle.speedate_base.specs.Ascii.{capital_t}
use Rattle.speedate_base.specs.Refused.{from_byte, placed, seen_as}
use Rattle.speedate_base.specs.declared.refusal.Refused.{Refused}
use Rattle.speedate_base.specs.Requirement.{shifted}
use Rattle.speedate_base.proofs.RefusalLemmas.{first_refusal_or-next, refusal-all, refusal-value}
use Rattle.speedate_base.proofs.RefusalLemmas.{seen-part, seen-read, seen-table, seen_then}
use Rattle.speedate.specs.Duration.{iso_after, iso_from, unsigned_answer}
use Rattle.speedate.specs.DurationNumbers.{DurationNumbers, UnsignedDuration}
use Rattle.speedate.specs.DurationPlace.{amount_numbers, first_item_after}
use Rattle.speedate.specs.IsoForm.{IsoSums, TimeDesignator, item_at, item_table, item_text}
use Rattle.speedate.specs.IsoForm.{sums_amount, with_item}
use Rattle.speedate.specs.IsoParts.{IsIsoRead, item_front_or}
use Rattle.speedate.proofs.DurationAnswerLemmas.{item_text-some}

-- what parsers of a part and of what follows it cite
pub ruleset part_rules = (seen_then, seen-part, take_rest)

-- The items of an ISO 8601 duration.

-- a part that begins at the front is the whole
from-front : {A : Type 0} (answer : Result A Refused) → answer ≡ from_byte 0 answer
from-front answer = search (rules, zero-add)

-- what follows the bytes of an item
iso_after-rest : (skipped : ℕ) (sums : IsoSums) (text : List ℕ) → skipped ≤ length text
    → iso_after skipped sums text ≡ from_byte skipped (iso_from sums (drop skipped text))
unfolding iso_after
iso_after-rest zero sums text within = from-front (iso_from sums text)
iso_after-rest (suc skipped) sums [] within = absurd (omega arith)
iso_after-rest (suc skipped) sums (byte ∷ rest) within =
    search (rules, seen-part, iso_after-rest skipped sums rest)

-- an item that is read leads to what follows it
pub iso_from-read : {E : Type 0} (refuse : ParseError → ℕ → E) (sums next : IsoSums)
    (text : List ℕ) (size : ℕ) → 0 < length text → size ≤ length text
    → Ok (next, size) ≡ item_front_or refuse sums (item_at text)
    → iso_from sums text ≡ from_byte size (iso_from next (drop size text))
unfolding iso_after
iso_from-read refuse sums next [] size some within read = absurd (lt_irrefl 0 some)
iso_from-read refuse sums next (byte ∷ rest) size some within read =
    let item = item_at (byte ∷ rest) in
    let item_size = length (item_text item) in
    let later = with_item item sums in
    let skipped = item_size - 1 in
    let value = refusal-value {A = IsoSums × ℕ} refuse (item_table sums item) in
    let held = value (later, item_size) (next, size) (sym read) in
    let sized : item_size ≡ size = ap (λ (front : IsoSums × ℕ). front.1) held.1 in
    let one : 1 + skipped ≡ size = omega (arith, sized, item_text-some item) in
    let more : suc skipped ≡ size = omega (arith, sized, item_text-some item) in
    let few : skipped ≤ length rest = omega (arith, sized, within, item_text-some item) in
    let after = iso_from later (drop skipped rest) in
    refusal-all placed (item_table sums item) (from_byte 1 (iso_after skipped later rest)) held.0
    ∙ ap (from_byte 1) (iso_after-rest skipped later rest few)
    ∙ seen-part placed 1 skipped after
    ∙ ap (λ (n : ℕ). from_byte n after) one
    ∙ ap (λ (n : ℕ). from_byte size (iso_from later (drop n (byte ∷ rest)))) more
    ∙ ap (λ (front : IsoSums × ℕ). from_byte size (iso_from front.0 (drop size (byte ∷ rest))))
    held.1

-- one that is refused decides
pub iso_from-refused : {E : Type 0} (refuse : ParseError → ℕ → E) (sums : IsoSums)
    (text : List ℕ) (refused : E) → 0 < length text
    → Err refused ≡ item_front_or refuse sums (item_at text)
    → Err refused ≡ seen_as refuse (iso_from sums text)
unfolding iso_after
iso_from-refused refuse sums [] refused some same = absurd (lt_irrefl 0 some)
iso_from-refused refuse sums (byte ∷ rest) refused some same =
    search (rules, first_refusal_or-next, seen-table)

-- and where nothing is left, so does whether there is a component
pub iso_from-done : (sums : IsoSums) (text : List ℕ) → length text ≡ 0
    → iso_from sums text
    ≡ (if sums.has_component then Ok (sums_amount sums) else Err (placed ParseError.TooShort 0))
unfolding iso_after
iso_from-done sums [] none = refl
iso_from-done sums (byte ∷ rest) none = absurd (omega (arith, none))

-- The text that is left ends where the whole does, so its length tells where it begins.

-- an item that is read leads to what follows it
pub iso_from-next : {E D : Type 0} (refuse : ParseError → ℕ → E) (other : ParseError → ℕ → D)
    (sums next : IsoSums) (end : ℕ) (rest : List ℕ) (size : ℕ) → 0 < size → size ≤ length rest
    → length rest ≤ end → Ok (next, size) ≡ item_front_or other sums (item_at rest)
    → seen_as (shifted (end - length rest) refuse) (iso_from sums rest)
    ≡ seen_as (shifted (end - length (drop size rest)) refuse) (iso_from next (drop size rest))
iso_from-next refuse other sums next end rest size some within small read =
    let some_left : 0 < length rest = omega (arith, some, within) in
    let read_on = iso_from-read other sums next rest size some_left within read in
    search (rules, length-drop size rest, seen-part, read_on)

-- what was read of a part is read of the whole
pub iso_from-part : {E : Type 0} (refuse : ParseError → ℕ → E) (end : ℕ) (sums next : IsoSums)
    (text rest : List ℕ) → length rest ≤ length text → length text ≤ end
    → from_byte (length text - length rest) (iso_from next rest) ≡ iso_from sums text
    → seen_as (shifted (end - length rest) refuse) (iso_from next rest)
    ≡ seen_as (shifted (end - length text) refuse) (iso_from sums text)
iso_from-part refuse end sums next text rest less within same = search (rules, seen-part)

-- where nothing is left, the text is refused at its end, or its sums are the answer
abbrev ended : IsoSums → Bool → Result UnsignedDuration Refused
ended sums some = if some then Ok (sums_amount sums) else Err (placed ParseError.TooShort 0)

pub iso_from-short : {E : Type 0} (refuse : ParseError → ℕ → E) (sums : IsoSums) (end : ℕ)
    (rest : List ℕ) → length rest ≡ 0 → sums.has_component ≡ false
    → Err (refuse ParseError.TooShort end)
    ≡ seen_as (shifted (end - length rest) refuse) (iso_from sums rest)
iso_from-short refuse sums end rest none no_component = search (rules, iso_from-done)

pub iso_from-sum : {E : Type 0} (refuse : ParseError → ℕ → E) (sums : IsoSums) (rest : List ℕ)
    → length rest ≡ 0 → sums.has_component ≡ true
    → Ok (sums_amount sums) ≡ seen_as refuse (iso_from sums rest)
iso_from-sum refuse sums rest none component =
    ap (seen_as refuse) (ap (ended sums) (sym component) ∙ sym (iso_from-done sums rest none))

-- a first `T` leads to what follows it
time-item : (text : List ℕ) → slice_index text 0 ≡ capital_t → item_at text ≡ TimeDesignator
time-item text first = grind (arith, nat_tests, first)

iso_from-after_time : (sums : IsoSums) (text : List ℕ) → 0 < length text
    → slice_index text 0 ≡ capital_t → sums.is_time ≡ false
    → iso_from sums text
    ≡ from_byte 1 (iso_from (with_item TimeDesignator sums) (drop 1 text))
iso_from-after_time sums text some first none =
    let later = with_item TimeDesignator sums in
    let next : IsoSums × ℕ = (later, 1) in
    let met = refusal-all placed (item_table sums TimeDesignator) (Ok next) (ap not none, tt) in
    let front = ap (item_front_or placed sums) (time-item text first) ∙ met in
    iso_from-read placed sums later text 1 some (omega (arith, some)) (sym front)

-- and what was read after it is read of the whole
pub iso_from-time_part : (sums next : IsoSums) (text rest : List ℕ) → 0 < length text
    → slice_index text 0 ≡ capital_t → sums.is_time ≡ false → length rest ≤ length (drop 1 text)
    → from_byte (length (drop 1 text) - length rest) (iso_from next rest)
    ≡ iso_from (with_item TimeDesignator sums) (drop 1 text)
    → from_byte (length text - length rest) (iso_from next rest) ≡ iso_from sums text
iso_from-time_part sums next text rest some first none less same =
    search (rules, length-drop 1 text, iso_from-after_time sums text some first none)

-- The first item after which a test of the sums does not hold.

first_item-rest : (test : DurationNumbers → Bool) (skipped : ℕ) (sums : IsoSums) (text : List ℕ)
    → skipped ≤ length text
    → first_item_after test skipped sums text
    ≡ skipped + first_item_after test 0 sums (drop skipped text)
unfolding first_item_after
first_item-rest test zero sums text within = omega arith
first_item-rest test (suc skipped) sums [] within = absurd (omega arith)
first_item-rest test (suc skipped) sums (byte ∷ rest) within =
    omega (arith, first_item-rest test skipped sums rest (omega arith))

pub first_item-step : {E : Type 0} (refuse : ParseError → ℕ → E) (test : DurationNumbers → Bool)
    (sums next : IsoSums) (text : List ℕ) (size : ℕ) → 0 < length text → size ≤ length text
    → Ok (next, size) ≡ item_front_or refuse sums (item_at text)
    → first_item_after test 0 sums text
    ≡ (if test (amount_numbers (sums_amount next))
    then size + first_item_after test 0 next (drop size text) else 0)
unfolding first_item_after
first_item-step refuse test sums next [] size some within read = absurd (lt_irrefl 0 some)
first_item-step refuse test sums next (byte ∷ rest) size some within read =
    let item = item_at (byte ∷ rest) in
    let item_size = length (item_text item) in
    let later = with_item item sums in
    let skipped = item_size - 1 in
    let value = refusal-value {A = IsoSums × ℕ} refuse (item_table sums item) in
    let held = value (later, item_size) (next, size) (sym read) in
    let sized : item_size ≡ size = ap (λ (front : IsoSums × ℕ). front.1) held.1 in
    let more : suc skipped ≡ size = omega (arith, sized, item_text-some item) in
    let few : skipped ≤ length rest = omega (arith, within, more) in
    search (rules, held.1, more, first_item-rest test skipped later rest few)

pub first_item-done : (test : DurationNumbers → Bool) (sums : IsoSums) (text : List ℕ)
    → length text ≡ 0 → first_item_after test 0 sums text ≡ 0
unfolding first_item_after
first_item-done test sums [] none = refl
first_item-done test sums (byte ∷ rest) none = absurd (omega (arith, none))

-- a duration that is read has read items
pub iso-read : (start : ℕ) (order : IsoOrder) (behavior : Behavior) (text : List ℕ)
    (amount : UnsignedDuration)
    → Ok amount ≡ seen_as (shifted start placed) (unsigned_answer order behavior text)
    → IsIsoRead order text
unfolding unsigned_answer
iso-read start order behavior text amount same = search (rules, seen-read)
