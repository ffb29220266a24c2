-- The amount of an ISO 8601 duration: the sum over its components, of each the number times its
-- unit, and for a fraction the number of microseconds that is nearest to that fraction of the unit.
use Rattle.std.specs.Prelude.{◌≡◌, ℕ, ◌+◌, ◌*◌, ◌^◌, Bool, true, false, not, List, [], ◌∷◌, length, drop, Some, pos}
use Rattle.speedate_base.specs.Digits.{digits_value}
use Rattle.speedate_base.specs.Nearest.{IsNearest}
use Rattle.speedate_base.specs.Numbers.{has_minus}
use Rattle.speedate.specs.DurationNumbers.{DurationNumbers, amount_microseconds}
use Rattle.speedate.specs.IsoForm.{IsoUnit, units, unit_in, unit_seconds, Item, TimeDesignator}
use Rattle.speedate.specs.IsoForm.{Component, ComponentText}

-- the microseconds of one of a unit
abbrev pub unit_microseconds : IsoUnit → ℕ
unit_microseconds unit = 1000000 * unit_seconds unit

-- a number of microseconds is the nearest to what the digits of a fraction are of a unit: 0 if
-- there are none
abbrev pub IsFractionOf : IsoUnit → List ℕ → ℕ → Type 0
IsFractionOf unit digits microseconds =
    IsNearest (pos (digits_value digits * unit_microseconds unit)) (10 ^ length digits)
    (pos microseconds)

-- an amount in microseconds is that of a component on a side of the `T`: its number of its unit,
-- and the fraction of one
pub record IsComponentAmount (is_time : Bool) (component : ComponentText)
    (amount : ℕ) : Type 0 where
  pub unit : IsoUnit
  pub fraction : ℕ
  pub is_unit : unit_in (units is_time) component.designator ≡ Some unit
  pub is_fraction : IsFractionOf unit (drop 1 component.fraction) fraction
  pub is_amount : amount ≡ digits_value component.number * unit_microseconds unit + fraction

-- an amount is the sum of the amounts of items; a `T` adds nothing, and after it comes the side of
-- the time
abbrev pub IsSumOf : Bool → List Item → ℕ → Type 0
IsSumOf is_time [] sum = sum ≡ 0
IsSumOf is_time (TimeDesignator ∷ items) sum = IsSumOf true items sum
IsSumOf is_time (Component component ∷ items) sum =
    (amount : ℕ) × (others : ℕ) × IsComponentAmount is_time component amount
    × IsSumOf is_time items others × (sum ≡ amount + others)

-- a duration has the amount that the items of its text add up to, and the sign of the text
pub record IsAmountOf (text : List ℕ) (items : List Item) (numbers : DurationNumbers) : Type 0 where
  pub amount : IsSumOf false items (amount_microseconds numbers)
  pub sign : numbers.positive ≡ not (has_minus text)
