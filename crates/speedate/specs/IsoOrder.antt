-- Components of an ISO 8601 duration that come in the order of the standard: years, months, weeks
-- and days, and after the `T` hours, minutes and seconds, each at most once. The standard has no
-- weeks beside other components.
use Rattle.std.specs.Prelude.{◌≡◌, ◌⊎◌, ℕ, Bool, true, false, ◌&&◌, List, [], ◌∷◌, ◌++◌, drop, slice_index, ◌==◌, if◌then◌else◌, Result, Ok, Err, length, nat_lt}
use Rattle.speedate_civil.specs.Base.{Behavior, IsoOrder, ParseError}
use Rattle.std.specs.List.{flat_map}
use Rattle.std.specs.Option.{is_some}
use Rattle.speedate_base.specs.Ascii.{capital_p}
use Rattle.speedate_base.specs.Numbers.{sign_size, IsSign}
use Rattle.speedate_base.specs.Refused.{without_place}
use Rattle.speedate.specs.Duration.{duration_answer}
use Rattle.speedate.specs.DurationNumbers.{DurationNumbers}
use Rattle.speedate.specs.IsoForm.{IsoUnit, units, unit_in, units_after, Item, TimeDesignator}
use Rattle.speedate.specs.IsoForm.{Component, item_text, no_sums, with_items, AreGood}
use Rattle.speedate.specs.IsoForm.{ComponentText, IsItem, IsoSums, with_item}

-- the unit of each component is among those that may still come, and a `T` begins anew
abbrev pub are_in_order : List IsoUnit → List Item → Bool
are_in_order next [] = true
are_in_order next (TimeDesignator ∷ items) = are_in_order (units true) items
are_in_order next (Component component ∷ items) =
    is_some (unit_in next component.designator)
    && are_in_order (units_after component.designator next) items

-- a text is a duration of good items, a component among them
pub record IsMadeOf (text : List ℕ) (items : List Item) : Type 0 where
  pub negative : Bool
  pub sign : List ℕ
  pub is_sign : IsSign negative sign
  pub are_good : AreGood (no_sums IsoOrder.Lax) items
  pub some : (with_items items (no_sums IsoOrder.Lax)).has_component ≡ true
  pub is_text : text ≡ sign ++ capital_p ∷ flat_map item_text items

-- an answer is that in the lax order, or the refusal of a component out of order
abbrev pub IsLaxOrRefused : {A : Type 0} → Result A ParseError → Result A ParseError → Type 0
IsLaxOrRefused lax answer = (answer ≡ lax) ⊎ (answer ≡ Err ParseError.DurationUnitOrder)

-- a text is an ISO 8601 duration, and neither days nor a clock: after its sign it begins with `P`
abbrev pub is_iso : List ℕ → Bool
is_iso text = slice_index (drop (sign_size text) text) 0 == capital_p

-- an answer to a text in the order that is asked for, beside the one in the lax order: it is that
-- one, or the refusal of a component out of order; an ISO 8601 duration that the lax order reads is
-- made of good items; the strict order refuses such a text if and only if they are not in order;
-- and it is not asked of a clock and of days
pub record IsAnswerInOrder (asked : IsoOrder) (behavior : Behavior) (text : List ℕ)
    (answer : Result DurationNumbers ParseError) : Type 0 where
  pub lax : IsLaxOrRefused (without_place (duration_answer IsoOrder.Lax behavior text)) answer
  pub items : (numbers : DurationNumbers) → is_iso text ≡ true
      → duration_answer IsoOrder.Lax behavior text ≡ Ok numbers
      → (items : List Item) × IsMadeOf text items
  pub strict : (items : List Item) → asked ≡ IsoOrder.Strict → IsMadeOf text items
      → answer ≡ (if are_in_order (units false) items
      then without_place (duration_answer IsoOrder.Lax behavior text)
      else Err ParseError.DurationUnitOrder)
  pub other_forms : is_iso text ≡ false
      → answer ≡ without_place (duration_answer IsoOrder.Lax behavior text)

-- ISO 8601 durations that differ only in the order of two neighbouring components of one side.

-- a component has a fraction, even if it is only a decimal mark
abbrev pub is_fractional : ComponentText → Bool
is_fractional component = nat_lt 0 (length component.fraction)

-- an item is whole: a `T`, or a component that has digits and the designator of a unit of its side
abbrev pub IsWhole : IsoSums → Item → Type 0
IsWhole sums TimeDesignator = Unit {0}
IsWhole sums (Component component) =
    IsItem (Component component) × (nat_lt 0 (length component.number) ≡ true)
    × (is_some (unit_in (units sums.is_time) component.designator) ≡ true)

-- each item of a list is whole, whether it meets its table or not
abbrev pub AreWhole : IsoSums → List Item → Type 0
AreWhole sums [] = Unit {0}
AreWhole sums (item ∷ items) = IsWhole sums item × AreWhole (with_item item sums) items

-- a component is whole and no decimal mark is in it or before it: in any order it can be refused
-- for its size alone
abbrev pub IsPlain : IsoSums → ComponentText → Type 0
IsPlain sums component =
    IsWhole sums (Component component) × (is_fractional component ≡ false)
    × (sums.has_fraction ≡ false)

-- the text of a duration that has two components, one next to the other, after items and before a
-- rest
abbrev pub pair_text : List ℕ → List Item → ComponentText → ComponentText → List ℕ → List ℕ
pair_text sign items first second rest =
    sign ++ capital_p ∷ (flat_map item_text items
    ++ (item_text (Component first) ++ (item_text (Component second) ++ rest)))

-- two texts differ only in the order of two neighbouring components of one side, with no decimal
-- mark in them or before them
pub record AreExchanged (one two : List ℕ) : Type 0 where
  pub negative : Bool
  pub sign : List ℕ
  pub items : List Item
  pub first : ComponentText
  pub second : ComponentText
  pub rest : List ℕ
  pub is_sign : IsSign negative sign
  pub are_whole : AreWhole (no_sums IsoOrder.Lax) items
  pub is_plain_first : IsPlain (with_items items (no_sums IsoOrder.Lax)) first
  pub is_plain_second : IsPlain (with_items items (no_sums IsoOrder.Lax)) second
  pub is_one : one ≡ pair_text sign items first second rest
  pub is_two : two ≡ pair_text sign items second first rest
