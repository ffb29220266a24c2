-- A duration as a clock shows it: hours, a minute, and a second with a fraction. This form is the
-- library's own. `text` begins with the hours; from the minute on it is a time of day.
use Rattle.std.specs.Prelude.{ℕ, ◌+◌, ◌*◌, ◌/◌, ◌%◌, Bool, ◌&&◌, List, [], ◌∷◌, length, take, drop, nat_le, nat_lt, ◌==◌, Result, Ok}
use Rattle.std.specs.Char.{is_ascii_digit}
use Rattle.std.specs.List.{list_all, position_or_len}
use Rattle.speedate_civil.specs.Base.{Behavior, ParseError}
use Rattle.speedate_base.specs.Ascii.{colon}
use Rattle.speedate_base.specs.Digits.{digits_value, run_length}
use Rattle.speedate_base.specs.Config.{refuses_digits}
use Rattle.speedate_base.specs.Requirement.{TextRow, ◌at_byte◌, ◌else_fault◌, ◌implies◌}
use Rattle.speedate_base.specs.Requirement.{◌>>=◌}
use Rattle.speedate_base.specs.declared.refusal.Refused.{Refused}
use Rattle.speedate_base.specs.Refused.{first_refused_or, from_byte}
use Rattle.speedate_civil.specs.Time.{Clock, minute_front}
use Rattle.speedate.specs.DurationNumbers.{UnsignedDuration}

-- how many bytes come before the first `:`, or how many there are if there is none
abbrev pub colon_place : List ℕ → ℕ
colon_place text = position_or_len (λ byte. byte == colon) text

-- a text is its hours, `:`, and what follows from its minute on; all of a text without a `:` is
-- hours
abbrev pub hours : List ℕ → List ℕ
hours text = take (colon_place text) text

abbrev pub from_minute : List ℕ → List ℕ
from_minute text = drop (colon_place text + 1) text

-- a text begins with at most ten digits, or none, and a `:`
abbrev pub has_hours : List ℕ → Bool
has_hours text =
    nat_lt (colon_place text) (length text) && nat_le (colon_place text) 10
    && list_all is_ascii_digit (hours text)

-- what a text has to meet to begin with hours: it has at least five bytes, and begins with at most
-- ten digits, or none, and `:`
abbrev pub hours_table : List ℕ → List TextRow
hours_table text =
    (nat_le 5 (length text) else_fault ParseError.TooShort at_byte length text)
    ∷ (nat_lt (colon_place text) (length text)
    else_fault ParseError.InvalidCharHour at_byte run_length text 0)
    ∷ (nat_le (colon_place text) 10 else_fault ParseError.DurationHourValueTooLarge at_byte 0)
    ∷ (list_all is_ascii_digit (hours text) else_fault ParseError.InvalidCharHour at_byte 0)
    ∷ []

-- what the hours have to meet: there are at most 2,400,000,000
abbrev pub hours_range : ℕ → List TextRow
hours_range hours =
    (nat_le hours 2400000000 else_fault ParseError.DurationHourValueTooLarge at_byte 0) ∷ []

-- what follows the hours has at least two bytes, and at most 12 if digits are refused
abbrev pub rest_table : Behavior → List ℕ → List TextRow
rest_table behavior rest =
    ((refuses_digits behavior implies nat_le (length rest) 12)
    else_fault ParseError.SecondFractionTooLong at_byte 12)
    ∷ (nat_le 2 (length rest) else_fault ParseError.TooShort at_byte length rest)
    ∷ []

-- a clock, from its minute on, takes all of a text
abbrev pub clock_end : Clock → List ℕ → List TextRow
clock_end clock rest =
    (clock.size == length rest else_fault ParseError.ExtraCharacters at_byte clock.size) ∷ []

-- a number of hours, and the minute, second and microsecond of a clock
abbrev pub clock_numbers : ℕ → Clock → UnsignedDuration
clock_numbers hours clock = record {
  day = hours / 24;
  second = 3600 * (hours % 24) + 60 * clock.minute + clock.second;
  microsecond = clock.microsecond;
}

-- the duration of a number of hours and of a clock, from its minute on, that takes all that follows
-- them, or the fault and its place
abbrev pub after_hours : Behavior → ℕ → List ℕ → Result UnsignedDuration Refused
after_hours behavior hours rest =
    first_refused_or (rest_table behavior rest)
    (minute_front behavior rest
    >>= (λ clock. first_refused_or (clock_end clock rest) (Ok (clock_numbers hours clock))))

-- the duration that a text says as a clock, or the text's fault and its place
unfoldable pub clock_form : Behavior → List ℕ → Result UnsignedDuration Refused
clock_form behavior text =
    let count = digits_value (hours text) in
    first_refused_or (hours_table text) (first_refused_or (hours_range count)
    (from_byte (colon_place text + 1) (after_hours behavior count (from_minute text))))
