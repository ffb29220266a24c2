-- A duration as days and a clock, `1 day, 10:20`. This form is the library's own. `text` begins
-- with the days.
use Rattle.std.specs.Prelude.{◌≡◌, ◌<◌, ◌≤◌, true, ℕ, ◌+◌, Bool, not, ◌||◌, List, [], ◌∷◌, codes, length, drop, slice_index, nat_eq, nat_le, nat_lt, ◌==◌, if◌then◌else◌, Result, Ok}
use Rattle.speedate_civil.specs.Base.{Behavior, ParseError}
use Rattle.std.specs.List.{list_any, starts_with}
use Rattle.speedate_base.specs.Ascii.{capital_d, small_d}
use Rattle.speedate_base.specs.Digits.{run_length, run_value}
use Rattle.speedate_base.specs.Requirement.{TextRow, ◌at_byte◌, ◌else_fault◌, ◌>>=◌}
use Rattle.speedate_base.specs.declared.refusal.Refused.{Refused}
use Rattle.speedate_base.specs.Refused.{first_refused_or, from_byte}
use Rattle.speedate.specs.ClockForm.{clock_form}
use Rattle.speedate.specs.DurationNumbers.{UnsignedDuration}

-- the letter of a day
abbrev pub is_day_letter : ℕ → Bool
is_day_letter byte = (byte == small_d) || (byte == capital_d)

-- how many bytes the first of some texts has that a text begins with: 0 if it begins with none of
-- them
abbrev pub size_of_one : List (List ℕ) → List ℕ → ℕ
size_of_one [] text = 0
size_of_one (one ∷ others) text =
    if starts_with nat_eq text one then length one else size_of_one others text

-- what may follow the `d` in the word `days` or `day`, small or in capitals
abbrev pub day_endings : List (List ℕ)
day_endings = codes "ays" ∷ codes "AYS" ∷ codes "ay" ∷ codes "AY" ∷ []

-- what may come between the days and a clock
abbrev pub gaps : List (List ℕ)
gaps = codes ", " ∷ codes "," ∷ codes " " ∷ []

-- a text is a number, a space or none, the letter of a day, an ending or none, a gap or none, and
-- then a clock or nothing: the places of the letter, of the ending and of the gap, and how many
-- bytes come before the clock
abbrev pub letter_place : List ℕ → ℕ
letter_place text = run_length text 0 + size_of_one (codes " " ∷ []) (drop (run_length text 0) text)

abbrev pub ending_place : List ℕ → ℕ
ending_place text = letter_place text + 1

abbrev pub gap_place : List ℕ → ℕ
gap_place text = ending_place text + size_of_one day_endings (drop (ending_place text) text)

abbrev pub days_size : List ℕ → ℕ
days_size text = gap_place text + size_of_one gaps (drop (gap_place text) text)

-- the ending after the letter of a day is whole, or none is begun
abbrev pub has_whole_ending : List ℕ → Bool
has_whole_ending text =
    list_any (starts_with nat_eq text) day_endings
    || not (list_any (starts_with nat_eq text) (codes "a" ∷ codes "A" ∷ []))

-- what a text has to meet to begin with days
abbrev pub days_table : List ℕ → List TextRow
days_table text =
    (nat_lt 0 (run_length text 0) else_fault ParseError.DurationInvalidNumber at_byte 0)
    ∷ (nat_le (run_value text 0) 4294967295 else_fault ParseError.DurationValueTooLarge at_byte 0)
    ∷ (is_day_letter (slice_index text (letter_place text))
    else_fault ParseError.DurationInvalidDays at_byte letter_place text)
    ∷ (has_whole_ending (drop (ending_place text) text)
    else_fault ParseError.DurationInvalidDays at_byte ending_place text)
    ∷ []

-- the days at the front of a text, and how many bytes come before the clock, or the text's fault
-- and its place
abbrev pub days_front : List ℕ → Result (ℕ × ℕ) Refused
days_front text = first_refused_or (days_table text) (Ok (run_value text 0, days_size text))

-- what the whole days of a clock have to meet that follows days: there are none
abbrev pub hours_of_day : ℕ → List TextRow
hours_of_day days = (days == 0 else_fault ParseError.DurationHourValueTooLarge at_byte 0) ∷ []

-- the numbers of days and of what follows them: of nothing, or of a clock of fewer than 24 hours
unfoldable pub after_days : Behavior → ℕ → List ℕ → Result UnsignedDuration Refused
after_days behavior days rest =
    if length rest == 0 then Ok (record { day = days; second = 0; microsecond = 0 })
    else clock_form behavior rest
    >>= (λ clock. first_refused_or (hours_of_day clock.day) (Ok (record clock { day = days })))

-- the numbers that a text says as days and a clock, the days of any size, or the text's fault and
-- its place
unfoldable pub day_form : Behavior → List ℕ → Result UnsignedDuration Refused
day_form behavior text = do
  days ← days_front text
  from_byte days.1 (after_days behavior days.0 (drop days.1 text))

-- a text is a number of days and the letter of a day
pub record IsWholeDays (text : List ℕ) (days : ℕ) : Type 0 where
  pub some : 0 < run_length text 0
  pub last : run_length text 0 + 1 ≡ length text
  pub letter : is_day_letter (slice_index text (run_length text 0)) ≡ true
  pub value : days ≡ run_value text 0
  pub few : days ≤ 4294967295
