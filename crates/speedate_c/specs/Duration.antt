-- What a duration from outside says, and how a duration is written.
use Rattle.std.specs.Prelude.{ℕ, ◌==◌, nat_le, nat_lt, Bool, true, false, List, [], ◌∷◌, Option, Some, None, Result, Ok, ℤ, ◌+ℤ◌, if◌then◌else◌}
use Rattle.std.specs.Ordering.{int_eq}
use Rattle.speedate.specs.Base.{CallKind, ParseError}
use Rattle.speedate.specs.Config.{Choices}
use Rattle.speedate.specs.Duration.{duration_answer, signed_amount}
use Rattle.speedate_c.specs.Code.{text_form}
use Rattle.speedate.specs.DurationNumbers.{DurationNumbers}
use Rattle.speedate.specs.Form.{with_length}
use Rattle.speedate.specs.Timestamp.{seconds_per_day}
use Rattle.speedate.specs.Requirement.{NumberRow, ◌else_fault◌, first_fault_or}
use Rattle.speedate_c.specs.Written.{Reading, reading, with_value}
use Rattle.speedate_c.specs.declared.duration.SpeedateDuration.{SpeedateDuration}

-- the numbers of a duration from outside, whatever they are
abbrev pub numbers_of : SpeedateDuration → DurationNumbers
numbers_of duration = record {
  positive = duration.negative == 0;
  day = duration.day;
  second = duration.second;
  microsecond = duration.microsecond;
}

-- what a duration from outside has to meet: the flag is 0 or 1, and the numbers are in their ranges
abbrev pub duration_table : SpeedateDuration → List NumberRow
duration_table duration =
    (nat_le duration.negative 1 else_fault ParseError.DurationValueTooLarge)
    ∷ (nat_le duration.day 999999999 else_fault ParseError.DurationDaysTooLarge)
    ∷ (nat_lt duration.second seconds_per_day else_fault ParseError.DurationValueTooLarge)
    ∷ (nat_le duration.microsecond 999999 else_fault ParseError.DurationValueTooLarge)
    ∷ []

-- the duration of its numbers, or the fault of the first that is out of range
abbrev pub duration_of : SpeedateDuration → Result DurationNumbers ParseError
duration_of duration = first_fault_or (duration_table duration) (Ok (numbers_of duration))

-- the flag of a sign
abbrev pub shown_sign : Bool → ℕ
shown_sign true = 0
shown_sign false = 1

-- a duration as it is written
abbrev pub shown_duration : DurationNumbers → SpeedateDuration
shown_duration numbers = record {
  negative = shown_sign numbers.positive;
  day = numbers.day;
  second = numbers.second;
  microsecond = numbers.microsecond;
}

-- the sum of the amounts of durations from outside in microseconds, each with its sign, after a
-- sum; there is none if a number is out of range
abbrev pub sum_after : ℤ → List SpeedateDuration → Option ℤ
sum_after sum [] = Some sum
sum_after sum (duration ∷ durations) =
    with_value (duration_of duration) None
    (λ numbers. sum_after (sum +ℤ signed_amount numbers) durations)

-- how a form reads a text, where durations have that form
abbrev pub duration_reading : ℤ → Choices → List ℕ → Option (Reading DurationNumbers)
duration_reading form chosen text =
    if int_eq form text_form
    then Some (reading CallKind.Duration
    (with_length text (duration_answer chosen.order chosen.behavior text)))
    else None
