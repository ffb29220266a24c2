-- The texts of RFC 3339 alone: what a relaxed text has to meet besides, and the same as a grammar
-- of its own.
use Rattle.std.specs.Prelude.{◌≡◌, ◌⊎◌, ℕ, ◌≤◌, true, List, [], ◌∷◌, ◌++◌, length, ◌+◌, not, ◌||◌, drop, nat_lt, ◌==◌, slice_index, if◌then◌else◌, Result, Ok}
use Rattle.speedate_civil.specs.Base.{Behavior, ParseError}
use Rattle.std.specs.Char.{is_ascii_digit}
use Rattle.std.specs.Int.{IsInRange}
use Rattle.std.specs.List.{list_all}
use Rattle.speedate_base.specs.Ascii.{plus_sign, hyphen, colon, full_stop, capital_t, capital_z}
use Rattle.speedate_base.specs.Ascii.{small_t, small_z, comma}
use Rattle.speedate_base.specs.Config.{refuses_digits}
use Rattle.speedate_base.specs.Digits.{two_digit_text, four_digit_text, run_length}
use Rattle.speedate_base.specs.Requirement.{TextRow, ◌else_fault◌, ◌at_byte◌, moved, ◌>>=◌}
use Rattle.speedate_base.specs.declared.refusal.Refused.{Refused}
use Rattle.speedate_base.specs.Refused.{first_refused_or}
use Rattle.speedate_civil.specs.Calendar.{month_length}
use Rattle.speedate_civil.specs.DateTime.{DateAndTime, date_time_answer}
use Rattle.speedate_civil.specs.Time.{has_minus_sign, is_utc, TimeOfDay, time_answer}

-- a text is 2DIGIT, as time-hour, time-minute and time-second are (RFC 3339 5.6): the digits of a
-- number up to the highest
pub record IsTwoDigits (highest : ℕ) (text : List ℕ) : Type 0 where
  pub number : ℕ
  pub within : number ≤ highest
  pub together : text ≡ two_digit_text number

-- a text is time-secfrac (RFC 3339 5.6)
pub record IsSecfrac (behavior : Behavior) (text : List ℕ) : Type 0 where
  pub digits : List ℕ
  pub are_digits : list_all is_ascii_digit digits ≡ true
  pub some : 1 ≤ length digits
  pub few : refuses_digits behavior ≡ true → length digits ≤ 6
  pub together : text ≡ full_stop ∷ digits

-- a text is partial-time (RFC 3339 5.6)
pub record IsPartialTime (behavior : Behavior) (text : List ℕ) : Type 0 where
  pub hour : List ℕ
  pub minute : List ℕ
  pub second : List ℕ
  pub fraction : List ℕ
  pub is_hour : IsTwoDigits 23 hour
  pub is_minute : IsTwoDigits 59 minute
  pub is_second : IsTwoDigits 59 second
  pub is_fraction : (fraction ≡ []) ⊎ IsSecfrac behavior fraction
  pub together : text ≡ hour ++ colon ∷ minute ++ colon ∷ second ++ fraction

-- a text is time-numoffset (RFC 3339 5.6)
pub record IsNumoffset (text : List ℕ) : Type 0 where
  pub sign : ℕ
  pub hour : List ℕ
  pub minute : List ℕ
  pub is_sign : (sign ≡ plus_sign) ⊎ (sign ≡ hyphen)
  pub is_hour : IsTwoDigits 23 hour
  pub is_minute : IsTwoDigits 59 minute
  pub together : text ≡ sign ∷ hour ++ colon ∷ minute

-- a text is time-offset (RFC 3339 5.6)
abbrev pub IsTimeOffset : List ℕ → Type 0
IsTimeOffset text = (text ≡ capital_z ∷ []) ⊎ ((text ≡ small_z ∷ []) ⊎ IsNumoffset text)

-- a text is full-time (RFC 3339 5.6)
pub record IsFullTime (behavior : Behavior) (text : List ℕ) : Type 0 where
  pub time : List ℕ
  pub offset : List ℕ
  pub is_time : IsPartialTime behavior time
  pub is_offset : IsTimeOffset offset
  pub together : text ≡ time ++ offset

-- a text is full-date (RFC 3339 5.6)
pub record IsFullDate (text : List ℕ) : Type 0 where
  pub year : ℕ
  pub month : ℕ
  pub day : ℕ
  pub is_year : year ≤ 9999
  pub is_month : IsInRange 1 12 month
  pub is_day : IsInRange 1 (month_length year month) day
  pub together : text ≡ four_digit_text year ++ hyphen ∷ two_digit_text month ++ hyphen
      ∷ two_digit_text day

-- a text is date-time (RFC 3339 5.6)
pub record IsDateTime (behavior : Behavior) (text : List ℕ) : Type 0 where
  pub date : List ℕ
  pub separator : ℕ
  pub time : List ℕ
  pub is_date : IsFullDate date
  pub is_separator : (separator ≡ capital_t) ⊎ (separator ≡ small_t)
  pub is_time : IsFullTime behavior time
  pub together : text ≡ date ++ separator ∷ time

-- The texts of RFC 3339 5.6 alone: what a text that is read as a time or as a date-time has to meet
-- besides. Departs from it: there is no second 60; if digits past the sixth are refused, a fraction
-- has at most six.

-- the place of the offset in the text of a time with a second: after the second, or after the
-- digits of its fraction
abbrev pub offset_place : List ℕ → ℕ
offset_place text = if slice_index text 8 == full_stop then 9 + run_length text 9 else 8

-- what the offset of a text that is read as a time has to meet besides, to be one of RFC 3339
abbrev pub strict_offset : List ℕ → List TextRow
strict_offset rest =
    (nat_lt 0 (length rest) else_fault ParseError.TzRequired at_byte 0)
    ∷ (not (has_minus_sign rest) else_fault ParseError.InvalidCharTzSign at_byte 0)
    ∷ ((is_utc (slice_index rest 0) || (slice_index rest 3 == colon))
    else_fault ParseError.InvalidCharTzMinute at_byte 3)
    ∷ []

-- what a text that is read as a time has to meet besides, to be one of RFC 3339
abbrev pub strict_time : List ℕ → List TextRow
strict_time text =
    (slice_index text 5 == colon else_fault ParseError.InvalidCharTimeSep at_byte 5)
    ∷ (not (slice_index text 8 == comma) else_fault ParseError.InvalidCharTzSign at_byte 8)
    ∷ moved (offset_place text) (strict_offset (drop (offset_place text) text))

-- what a text that is read as a date-time has to meet besides, to be one of RFC 3339
abbrev pub strict_date_time : List ℕ → List TextRow
strict_date_time text =
    (((slice_index text 10 == capital_t) || (slice_index text 10 == small_t))
    else_fault ParseError.InvalidCharDateTimeSep at_byte 10)
    ∷ moved 11 (strict_time (drop 11 text))

-- the time that a text of RFC 3339 is, or the text's fault and its place
abbrev pub strict_time_answer : Behavior → List ℕ → Result TimeOfDay Refused
strict_time_answer behavior text = do
  time ← time_answer behavior text
  first_refused_or (strict_time text) (Ok time)

-- the date-time that a text of RFC 3339 is, or the text's fault and its place
abbrev pub strict_date_time_answer : Behavior → List ℕ → Result DateAndTime Refused
strict_date_time_answer behavior text = do
  value ← date_time_answer behavior text
  first_refused_or (strict_date_time text) (Ok value)
