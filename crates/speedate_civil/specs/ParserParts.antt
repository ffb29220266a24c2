-- What parsers decide by on their way to an answer.
use Rattle.std.specs.Prelude.{◌+◌, ◌≡◌, ℕ, ◌≤◌, List, [], ◌∷◌, Bool, true, false, ◌||◌, ◌==◌, codes, drop, length, slice_index, Option, Some, None, is_some, Ok, ℤ, pos, if◌then◌else◌}
use Rattle.std.specs.Option.{unwrap_or}
use Rattle.speedate_civil.specs.Base.{Behavior, ParseError}
use Rattle.speedate_base.specs.Ascii.{colon, digit_zero}
use Rattle.speedate_base.specs.Digits.{eight_at, fit_length, two_digits_at, two_digit_value}
use Rattle.speedate_base.specs.Offset.{IsOffset}
use Rattle.speedate_civil.specs.declared.time.pure.AfterMinute.{AfterMinute}
use Rattle.speedate_civil.specs.declared.time.pure.SecondField.{SecondField}
use Rattle.speedate_civil.specs.Calendar.{Ymd}
use Rattle.speedate_civil.specs.Date.{date_front}
use Rattle.speedate_civil.specs.DateTime.{is_separator}
use Rattle.speedate_civil.specs.Time.{Clock, clock_front, has_second, offset_front}

-- the second of a clock that is given from its minute on
abbrev pub second_of : List ℕ → SecondField
second_of rest =
    if has_second rest then
    (if two_digits_at rest 3 then SecondField.Number (two_digit_value rest 3)
    else SecondField.Faulty)
    else SecondField.Absent

-- the clock of hour 0 of a minute and what was read after it
abbrev pub clock_after : ℕ → AfterMinute → Clock
clock_after minute after = record {
  hour = 0;
  minute = minute;
  second = after.second;
  microsecond = after.microsecond;
  size = after.size;
}

-- a text begins as a date looks, and goes on from byte 11 as a clock with its second looks, whose
-- minute and second are in their ranges
pub record HasFullClock (text : List ℕ) : Type 0 where
  pub long : 19 ≤ length text
  pub date : fit_length (codes "0000-00-") (eight_at text 0) ≡ 8
  pub day : two_digits_at text 8 ≡ true
  pub clock : fit_length (codes "00:00:00") (eight_at (drop 11 text) 0) ≡ 8
  pub minute : two_digit_value (drop 11 text) 3 ≤ 59
  pub second : two_digit_value (drop 11 text) 6 ≤ 59

-- the hour and the minute of an offset, and three bytes of which nothing is asked
abbrev pub hour_and_minute_form : List ℕ
hour_and_minute_form =
    digit_zero ∷ digit_zero ∷ colon ∷ digit_zero ∷ digit_zero ∷ 0 ∷ 0 ∷ 0 ∷ []

-- an offset of these seconds begins a text, in so many bytes, or none does, in no byte, where that
-- stands for UTC
pub record IsOffsetOrUtc (assumes_utc : Bool) (rest : List ℕ) (front : ℤ × ℕ) : Type 0 where
  pub offset : Option ℤ
  pub read : offset_front rest ≡ Ok (offset, front.1)
  pub second : unwrap_or offset (pos 0) ≡ front.0
  pub there : (assumes_utc || is_some offset) ≡ true
  pub told : offset ≡ (if front.1 == 0 then None else Some front.0)
  pub range : IsOffset front.0

-- a date, a separator, a clock and such an offset begin a text
pub record IsFullFront (assumes_utc : Bool) (text : List ℕ) (date : Ymd) (clock : Clock)
    (offset : ℤ × ℕ) : Type 0 where
  pub dated : date_front text ≡ Ok (date, 10)
  pub parted : is_separator (slice_index text 10) ≡ true
  pub timed : (behavior : Behavior) → clock_front behavior (drop 11 text) ≡ Ok clock
  pub found : IsOffsetOrUtc assumes_utc (drop clock.size (drop 11 text)) offset
  pub within : 11 + (clock.size + offset.1) ≤ length text

-- a date's table may refuse a number by this fault: it is short, or has a sign, a digit or a
-- decimal mark where none may stand
abbrev pub may_be_number : ParseError → Bool
may_be_number ParseError.TooShort = true
may_be_number ParseError.InvalidCharYear = true
may_be_number ParseError.InvalidCharDateSep = true
may_be_number other = false
