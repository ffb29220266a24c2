-- Date-times as programs print them: beside the offsets of a text, the zones that they write after
-- a clock, and the byte of a line at which a value can end.
use Rattle.std.specs.Prelude.{ℕ, ◌+◌, ◌*◌, ◌==◌, ◌&&◌, ◌||◌, not, Bool, true, List, [], ◌∷◌, codes, drop, slice_index, nat_eq, nat_le, Option, Some, None, is_some, Result, Ok, Err, ℤ, pos, if◌then◌else◌}
use Rattle.std.specs.Char.{is_ascii_alphanumeric, is_ascii_digit}
use Rattle.std.specs.List.{starts_with}
use Rattle.speedate_base.specs.Ascii.{capital_p, colon, full_stop, hyphen, plus_sign, space}
use Rattle.speedate_base.specs.Digits.{two_digit_value, two_digits_at}
use Rattle.speedate_base.specs.Numbers.{with_sign}
use Rattle.speedate_base.specs.Refused.{alone_or, first_refused_or, from_byte, placed}
use Rattle.speedate_base.specs.Requirement.{◌at_byte◌, ◌else_fault◌, ◌>>=◌}
use Rattle.speedate_base.specs.declared.refusal.Refused.{Refused}
use Rattle.speedate_civil.specs.Base.{Behavior, ParseError}
use Rattle.speedate_civil.specs.Calendar.{Ymd}
use Rattle.speedate_civil.specs.Date.{date_front}
use Rattle.speedate_civil.specs.DateTime.{DateAndTime, separator_table}
use Rattle.speedate_civil.specs.Time.{Clock, clock_front, clock_with_offset, end_fault}
use Rattle.speedate_civil.specs.Time.{has_minus_sign, is_plus_or_minus, is_utc, offset_minute}
use Rattle.speedate_civil.specs.Time.{offset_minute_place, signed_front}

-- Where a value ends.

-- a byte that joins a digit after it to what comes before it
abbrev pub joins : ℕ → Bool
joins byte = (byte == full_stop) || (byte == colon) || (byte == plus_sign) || (byte == hyphen)

-- a value can end before these bytes: at the end of the line, or before a byte that is no letter
-- and no digit, and that joins no digit; U+2212 joins one as a hyphen does
unfoldable pub is_boundary : List ℕ → Bool
is_boundary rest =
    not (is_ascii_alphanumeric (slice_index rest 0))
    && not (joins (slice_index rest 0) && is_ascii_digit (slice_index rest 1))
    && not (has_minus_sign rest && is_ascii_digit (slice_index rest 3))

-- Zones: the offset in seconds, if there is one, and how many bytes it takes.

abbrev pub no_zone : Option ℤ × ℕ
no_zone = (None, 0)

-- the offset 0 in so many bytes
abbrev pub utc_zone : ℕ → Option ℤ × ℕ
utc_zone size = (Some (pos 0), size)

-- the zone of an hour, which is at `start` of the whole text, after a sign of so many bytes
abbrev pub hour_zone : ℕ → Bool → ℕ → ℕ → Result (Option ℤ × ℕ) Refused
hour_zone start west sign hour =
    from_byte start
    (first_refused_or ((nat_le hour 23 else_fault ParseError.OutOfRangeTz at_byte 0) ∷ [])
    (Ok (Some (with_sign west (3600 * hour)), sign + 2)))

-- an hour and a minute stand after a sign: `HH:MM` or `HHMM`
abbrev pub has_minute : List ℕ → Bool
has_minute numbers =
    two_digits_at numbers 0 && two_digits_at numbers (offset_minute_place numbers)

-- the zone by the bytes after its sign: `HH:MM` or `HHMM`, as the library reads them, or `HH`
unfoldable pub signed_zone : ℕ → Bool → ℕ → List ℕ → Result (Option ℤ × ℕ) Refused
signed_zone start west sign numbers =
    if has_minute numbers then from_byte start (signed_front west sign numbers)
    else if two_digits_at numbers 0 then hour_zone start west sign (two_digit_value numbers 0)
    else Ok no_zone

-- The zone after one blank: `UTC`, `GMT`, or a sign with `HH:MM` or `HHMM`.

-- a text begins with a word
abbrev pub begins_with : List ℕ → List ℕ → Bool
begins_with word text = starts_with nat_eq text word

-- a text begins with a name of UTC
abbrev pub has_utc_name : List ℕ → Bool
has_utc_name text = begins_with (codes "UTC") text || begins_with (codes "GMT") text

-- an offset of so many hours and minutes is in use somewhere: most numbers of four digits are none
abbrev pub is_in_use : ℕ → ℕ → Bool
is_in_use hour minute =
    nat_le hour 14 && ((minute == 0) || (minute == 15) || (minute == 30) || (minute == 45))

-- the hour and the minute of a text that begins with `HH:MM` or `HHMM`
abbrev pub hour_and_minute : List ℕ → Option (ℕ × ℕ)
hour_and_minute numbers =
    if has_minute numbers then Some (two_digit_value numbers 0, offset_minute numbers) else None

-- the zone of an hour, and of a minute at a place after the sign, if they are in use
abbrev pub zone_in_use : Bool → ℕ → Option (ℕ × ℕ) → Option ℤ × ℕ
zone_in_use west place None = no_zone
zone_in_use west place (Some both) =
    if is_in_use both.0 both.1
    then (Some (with_sign west (3600 * both.0 + 60 * both.1)), 3 + place) else no_zone

-- the zone by the bytes after its sign
abbrev pub minute_zone : Bool → List ℕ → Option ℤ × ℕ
minute_zone west numbers =
    zone_in_use west (offset_minute_place numbers) (hour_and_minute numbers)

-- the zone at the front of what follows the blank
abbrev pub apart : List ℕ → Option ℤ × ℕ
apart text =
    if has_utc_name text then utc_zone 3
    else if is_plus_or_minus (slice_index text 0)
    then minute_zone (slice_index text 0 == hyphen) (drop 1 text)
    else no_zone

-- a text begins with the name of a half of the day
abbrev pub has_half_name : List ℕ → Bool
has_half_name text =
    begins_with (codes "AM") text || begins_with (codes "PM") text
    || begins_with (codes "am") text || begins_with (codes "pm") text

-- the half of the day stands before these bytes, so that the clock before it has twelve hours
unfoldable pub is_half_day : List ℕ → Bool
is_half_day text = has_half_name text && is_boundary (drop 2 text)

-- a zone after a blank, by what follows it, which has to be a boundary
abbrev pub after_blank : Option ℤ × ℕ → List ℕ → Option ℤ × ℕ
after_blank zone rest = if is_some zone.0 && is_boundary rest then (zone.0, 1 + zone.1) else no_zone

-- the same, or nothing if the half of the day follows the blank
unfoldable pub zone_after_blank : List ℕ → Option (Option ℤ × ℕ)
zone_after_blank text =
    if is_half_day text then None else Some (after_blank (apart text) (drop (apart text).1 text))

-- `A`
abbrev pub capital_a : ℕ
capital_a = 65

-- `G`
abbrev pub capital_g : ℕ
capital_g = 71

-- `U`
abbrev pub capital_u : ℕ
capital_u = 85

-- `a`
abbrev pub small_a : ℕ
small_a = 97

-- `p`
abbrev pub small_p : ℕ
small_p = 112

-- the first byte of a zone that comes after a blank, or of a half of the day
abbrev pub may_begin_zone : ℕ → Bool
may_begin_zone byte =
    is_plus_or_minus byte || (byte == capital_g) || (byte == capital_u)
    || (byte == capital_a) || (byte == capital_p) || (byte == small_a) || (byte == small_p)

-- The zone after a clock.

-- the zone of a clock that no offset follows: it may come after a blank; nothing if the half of the
-- day does
unfoldable pub late_zone : List ℕ → Option (Option ℤ × ℕ)
late_zone rest =
    if slice_index rest 0 == space then zone_after_blank (drop 1 rest) else Some no_zone

-- the zone of a clock that no offset follows, or the refusal of the half of the day, which is after
-- a blank; `start` is the place of the blank
abbrev pub or_half_day : ℕ → Option (Option ℤ × ℕ) → Result (Option ℤ × ℕ) Refused
or_half_day start (Some zone) = Ok zone
or_half_day start None = Err (placed ParseError.ExtraCharacters (start + 1))

-- the zone that follows a clock, or the refusal of what begins as one; `start` is its place
unfoldable pub zone_front : ℕ → List ℕ → Result (Option ℤ × ℕ) Refused
zone_front start rest =
    if is_plus_or_minus (slice_index rest 0)
    then signed_zone (start + 1) (slice_index rest 0 == hyphen) 1 (drop 1 rest)
    else if is_utc (slice_index rest 0) then Ok (utc_zone 1)
    else if has_minus_sign rest then signed_zone (start + 3) true 3 (drop 3 rest)
    else or_half_day start (late_zone rest)

-- Date-times with such a zone.

-- a date, a separator and a clock at the front of a text
abbrev pub date_and_clock : Behavior → List ℕ → Result (Ymd × Clock) Refused
date_and_clock behavior text = do
  date ← date_front text
  clock ← first_refused_or (separator_table text)
      (from_byte 11 (clock_front behavior (drop 11 text)))
  Ok (date.0, clock)

-- the date-time of a date, a clock and the zone after it, and how many bytes it takes
abbrev pub zoned : Ymd → Clock → Option ℤ × ℕ → DateAndTime × ℕ
zoned date clock zone =
    (record { date = date; time = clock_with_offset clock zone.0 }, (11 + clock.size) + zone.1)

-- the date-time at the front of a text, a date, a separator, a clock, and then the zone, and how
-- many bytes it takes, whatever follows it; or the text's fault and its place
unfoldable pub loose_value : Behavior → List ℕ → Result (DateAndTime × ℕ) Refused
loose_value behavior text = do
  front ← date_and_clock behavior text
  zone ← zone_front (11 + front.1.size) (drop (11 + front.1.size) text)
  Ok (zoned front.0 front.1 zone)

-- a date-time without an offset at the front of a text, with the zone that comes after its clock
abbrev pub with_zone : DateAndTime × ℕ → Option (Option ℤ × ℕ) → Option (DateAndTime × ℕ)
with_zone front None = None
with_zone (value, size) (Some zone) =
    Some (record value { time = record value.time { offset = zone.0 } }, size + zone.1)

-- a date-time at the front of a text, by the parts that every form has, with the zone that may come
-- after a blank, or nothing if the half of the day does
abbrev pub with_late_zone : List ℕ → DateAndTime × ℕ → Option (DateAndTime × ℕ)
with_late_zone text (value, size) =
    if is_some value.time.offset then Some (value, size)
    else with_zone (value, size) (late_zone (drop size text))

-- the fault of a date-time that ends where a value cannot, and its place
abbrev pub end_refused : DateAndTime × ℕ → Refused
end_refused front = placed (end_fault front.0.time.offset) front.1

-- a date-time that has to end at a boundary
abbrev pub bounded : List ℕ → DateAndTime × ℕ → Result (DateAndTime × ℕ) Refused
bounded text front =
    if is_boundary (drop front.1 text) then Ok front else Err (end_refused front)

-- the date-time at the front of a text, which ends at a boundary, and how many bytes it takes, or
-- the text's fault and its place
abbrev pub loose_front : Behavior → List ℕ → Result (DateAndTime × ℕ) Refused
loose_front behavior text = loose_value behavior text >>= bounded text

-- the date-time that a text is, or the text's fault and its place
abbrev pub loose_answer : Behavior → List ℕ → Result DateAndTime Refused
loose_answer behavior text = do
  value ← loose_value behavior text
  alone_or (λ read. end_fault read.time.offset) text value
