-- Configurations: what they choose, and the names of the choices.
use Rattle.std.specs.Prelude.{Bool, true, false, ℤ, Option, None, ℕ, List, [], ◌∷◌, codes, if◌then◌else◌, Some, Result}
use Rattle.std.specs.Option.{ok_or}
use Rattle.std.specs.Str.{str_eq_ignore_ascii_case}
pub use Rattle.speedate_base.specs.declared.config.IsoOrder.{IsoOrder}
pub use Rattle.speedate_base.specs.declared.config.MicrosecondsPrecisionOverflowBehavior.{
  MicrosecondsPrecisionOverflowBehavior as Behavior,
}
use Rattle.speedate_base.specs.declared.config.TimeConfig.{TimeConfig}
pub use Rattle.speedate_base.specs.declared.config.TimestampUnit.{TimestampUnit}
use Rattle.speedate_base.specs.declared.config.date_time.DateTimeConfig.{DateTimeConfig}
pub use Rattle.speedate_base.specs.declared.faults.config_error.ConfigError.{ConfigError}

-- digits past the microsecond are refused
abbrev pub refuses_digits : Behavior → Bool
refuses_digits Behavior.Truncate = false
refuses_digits Behavior.Error = true

-- what a configuration chooses
pub record Choices : Type 0 where
  pub unit : TimestampUnit
  pub behavior : Behavior
  pub order : IsoOrder
  pub offset : Option ℤ

-- the default: the unit of a timestamp is inferred, digits past the microsecond are refused, the
-- components of a duration may come in any order, and the value of a timestamp gets no offset
abbrev pub default_choices : Choices
default_choices =
    record {
      unit = TimestampUnit.Infer;
      behavior = Behavior.Error;
      order = IsoOrder.Lax;
      offset = None;
    }

-- a unit, and what a configuration of times chooses
abbrev pub unit_and_time : TimestampUnit → TimeConfig → Choices
unit_and_time unit config = record {
  unit = unit;
  behavior = config.microseconds_precision_overflow_behavior;
  order = config.iso_order;
  offset = config.unix_timestamp_offset;
}

-- the choices of a configuration of date-times
abbrev pub choices : DateTimeConfig → Choices
choices config = unit_and_time config.timestamp_unit config.time_config

-- the choices of a configuration of times, which has no unit: the unit is the default one
abbrev pub time_choices : TimeConfig → Choices
time_choices config = unit_and_time TimestampUnit.Infer config

-- choices in which one is replaced
abbrev pub with_behavior : Behavior → Choices → Choices
with_behavior behavior chosen =
    record { unit = chosen.unit; behavior = behavior; order = chosen.order; offset = chosen.offset }

abbrev pub with_order : IsoOrder → Choices → Choices
with_order order chosen =
    record { unit = chosen.unit; behavior = chosen.behavior; order = order; offset = chosen.offset }

abbrev pub with_offset : Option ℤ → Choices → Choices
with_offset offset chosen =
    record { unit = chosen.unit; behavior = chosen.behavior; order = chosen.order; offset = offset }

-- The texts by which a unit of timestamps, a behavior and an order are chosen: names, in letters of
-- any case.

-- a value, and its name in small letters
pub record Choice (A : Type 0) : Type 0 where
  pub name : List ℕ
  pub value : A

infix 20 ◌chooses◌
-- a row of a table of choices: a name, and the value that it chooses
abbrev pub ◌chooses◌ : {A : Type 0} → List ℕ → A → Choice A
name chooses value = record { name = name; value = value }

-- the value of the row whose name a text is, in ASCII letters of any case, if there is such a row
abbrev pub named : {A : Type 0} → List (Choice A) → List ℕ → Option A
named [] text = None
named (row ∷ rows) text =
    if str_eq_ignore_ascii_case row.name text then Some row.value else named rows text

-- the units by their names
abbrev pub unit_choices : List (Choice TimestampUnit)
unit_choices =
    (codes "s" chooses TimestampUnit.Second)
    ∷ (codes "ms" chooses TimestampUnit.Millisecond)
    ∷ (codes "us" chooses TimestampUnit.Microsecond)
    ∷ (codes "infer" chooses TimestampUnit.Infer)
    ∷ []

-- the unit that a text names, or the fault
abbrev pub unit_answer : List ℕ → Result TimestampUnit ConfigError
unit_answer text = ok_or (named unit_choices text) ConfigError.UnknownTimestampUnitString

-- the behaviors by their names
abbrev pub behavior_choices : List (Choice Behavior)
behavior_choices =
    (codes "truncate" chooses Behavior.Truncate) ∷ (codes "error" chooses Behavior.Error) ∷ []

-- the behavior that a text names, or the fault
abbrev pub behavior_answer : List ℕ → Result Behavior ConfigError
behavior_answer text =
    ok_or (named behavior_choices text)
    ConfigError.UnknownMicrosecondsPrecisionOverflowBehaviorString

-- the orders of components by their names
abbrev pub order_choices : List (Choice IsoOrder)
order_choices = (codes "lax" chooses IsoOrder.Lax) ∷ (codes "strict" chooses IsoOrder.Strict) ∷ []

-- the order that a text names, if it names one
abbrev pub order_answer : List ℕ → Option IsoOrder
order_answer text = named order_choices text
