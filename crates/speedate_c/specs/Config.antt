-- What a configuration from outside says. Each choice is a number: the place of its value in a
-- list.
use Rattle.std.specs.Prelude.{ℕ, ◌==◌, nat_le, Bool, false, true, ℤ, List, [], ◌∷◌, slice_get, Option, Some, None, Result, Ok, if◌then◌else◌}
use Rattle.std.specs.Option.{option_and_then, option_map}
use Rattle.std.specs.Result.{result_ok}
use Rattle.speedate.specs.Config.{Choices}
use Rattle.speedate.specs.Base.{Behavior, IsoOrder, ParseError, TimestampUnit}
use Rattle.speedate.specs.Offset.{offset_table}
use Rattle.speedate.specs.Requirement.{◌else_fault◌, first_fault_or, result_and_then}
use Rattle.speedate_c.specs.declared.config.SpeedateConfig.{SpeedateConfig}

-- the values of each choice in the order of their numbers, the default first
abbrev pub units : List TimestampUnit
units = TimestampUnit.Infer ∷ TimestampUnit.Second ∷ TimestampUnit.Millisecond
    ∷ TimestampUnit.Microsecond ∷ []

abbrev pub behaviors : List Behavior
behaviors = Behavior.Error ∷ Behavior.Truncate ∷ []

abbrev pub orders : List IsoOrder
orders = IsoOrder.Lax ∷ IsoOrder.Strict ∷ []

-- what a flag says
abbrev pub flags : List Bool
flags = false ∷ true ∷ []

-- an offset by its flag and its seconds, of any size: none where the flag is 0, whatever the
-- seconds
abbrev pub offset_by_flag : ℕ → ℤ → Result (Option ℤ) ParseError
offset_by_flag flag seconds =
    first_fault_or ((nat_le flag 1 else_fault ParseError.OutOfRangeTz) ∷ [])
    (Ok (if flag == 0 then None else Some seconds))

-- an offset by its flag and its seconds, or the fault of one that is out of its range
abbrev pub offset_answer : ℕ → ℤ → Result (Option ℤ) ParseError
offset_answer flag seconds =
    result_and_then (λ offset. first_fault_or (offset_table offset) (Ok offset))
    (offset_by_flag flag seconds)

-- what a configuration from outside chooses for times, where each of its numbers has a value
abbrev pub time_choices_of : SpeedateConfig → Option Choices
time_choices_of config =
    option_and_then (λ behavior.
    option_and_then (λ order.
    option_map (λ offset. record {
      unit = TimestampUnit.Infer;
      behavior = behavior;
      order = order;
      offset = offset;
    })
    (result_ok (offset_answer config.has_timestamp_offset config.timestamp_offset)))
    (slice_get orders config.iso_order))
    (slice_get behaviors config.overflow_behavior)

-- choices in which the unit is replaced
abbrev pub with_unit : TimestampUnit → Choices → Choices
with_unit unit chosen =
    record { unit = unit; behavior = chosen.behavior; order = chosen.order; offset = chosen.offset }

-- what a configuration from outside chooses for date-times, where each of its numbers has a value
abbrev pub choices_of : SpeedateConfig → Option Choices
choices_of config =
    option_and_then (λ unit. option_map (with_unit unit) (time_choices_of config))
    (slice_get units config.timestamp_unit)
