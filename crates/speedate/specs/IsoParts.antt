-- What contracts see of the parts of the parser of ISO 8601 durations.
use Rattle.std.specs.Prelude.{Bool, true, ◌≡◌, [], ◌∷◌, ◌==◌, length, if◌then◌else◌, drop, slice_index, zero, suc, Some, List, ℕ, Result, Ok, IsOk}
use Rattle.speedate_base.specs.Requirement.{first_refusal_or}
use Rattle.speedate.specs.declared.duration.iso.DurationUnit.{DurationUnit}
use Rattle.speedate.specs.declared.duration.iso.Sums.{Sums}
use Rattle.speedate.specs.declared.duration.iso.error_place.Bound.{Bound}
use Rattle.speedate.specs.DurationNumbers.{DurationNumbers, has_days_up_to, has_seconds_up_to}
use Rattle.speedate_civil.specs.Base.{IsoOrder, ParseError}
use Rattle.speedate_base.specs.Ascii.{capital_p}
use Rattle.speedate.specs.Duration.{iso_form}
use Rattle.speedate.specs.IsoForm.{IsoUnit, units, unit_in, Item, item_text, IsoSums, with_item}
use Rattle.speedate.specs.IsoForm.{item_table}

-- a unit by its designator and its worth
abbrev pub unit_parts : DurationUnit → IsoUnit
unit_parts unit = record { designator = unit.designator; day = unit.day; second = unit.second }

-- how many units a list has before the one of a designator
abbrev pub unit_place : ℕ → List IsoUnit → ℕ
unit_place designator [] = zero
unit_place designator (unit ∷ units) =
    if designator == unit.designator then zero else suc (unit_place designator units)

-- a unit is one of a side, at its place
pub record IsUnitOf (is_time : Bool) (unit : DurationUnit) : Type 0 where
  pub is_unit : unit_in (units is_time) unit.designator ≡ Some (unit_parts unit)
  pub is_place : unit.place ≡ unit_place unit.designator (units is_time)

-- sums by their numbers
abbrev pub sums_parts : Sums → IsoSums
sums_parts sums = record {
  order = sums.order;
  next_units = drop sums.next_place (units sums.is_time);
  is_time = sums.is_time;
  has_fraction = sums.has_fraction;
  has_component = sums.has_component;
  day = sums.day;
  second = sums.second;
  microsecond = sums.microsecond;
}

-- the sums with an item, and how many bytes it has, or its refusal
abbrev pub item_front_or : {E : Type 0} → (ParseError → ℕ → E) → IsoSums → Item
    → Result (IsoSums × ℕ) E
item_front_or refuse sums item =
    first_refusal_or refuse (item_table sums item)
    (Ok (with_item item sums, length (item_text item)))

-- a bound of the normal form as a test of numbers
abbrev pub bound_test : Bound → DurationNumbers → Bool
bound_test Bound.Seconds = has_seconds_up_to 4294967295
bound_test (Bound.Days largest) = has_days_up_to largest

-- if a duration without its sign begins with `P`, what follows is accepted
abbrev pub IsIsoRead : IsoOrder → List ℕ → Type 0
IsIsoRead order text =
    (slice_index text 0 == capital_p) ≡ true → IsOk (iso_form order (drop 1 text))
