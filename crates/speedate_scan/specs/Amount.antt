-- What duration a line has.
use Rattle.std.specs.Prelude.{ℕ, ◌+◌, ◌==◌, ◌&&◌, ◌||◌, not, Bool, List, [], ◌∷◌, length, take, drop, slice_index, Option, Some, None, option_map, Result, Ok, Err, if◌then◌else◌}
use Rattle.std.specs.List.{position}
use Rattle.std.specs.Char.{is_ascii_digit}
use Rattle.speedate.specs.Ascii.{capital_m, capital_p, capital_t, capital_y, colon, comma}
use Rattle.speedate_base.specs.Digits.{is_decimal_mark}
use Rattle.speedate.specs.Base.{Behavior, IsoOrder}
use Rattle.speedate.specs.Duration.{duration_answer}
use Rattle.speedate.specs.DurationNumbers.{DurationNumbers}
use Rattle.speedate_base.specs.Numbers.{has_minus, sign_size}
use Rattle.speedate_base.specs.declared.refusal.Refused.{Refused}
use Rattle.speedate_scan.specs.Field.{Field, mark_length, nth_field}
use Rattle.speedate_scan.specs.Reading.{Bad, Place, Reader, Reading, Wanted, Why, alone}
use Rattle.speedate_scan.specs.Reading.{claim_after, fields_of, is_cut, not_within, part}
use Rattle.speedate_scan.specs.Reading.{undated_field, without_field}
use Rattle.speedate_scan.specs.Scan.{LineKind, Scan, is_stopped, judged}
use Rattle.speedate.specs.Loose.{is_boundary}

-- Years and months, whose lengths differ.

-- a text is one of ISO 8601: it begins with `P`, after its sign
abbrev pub is_iso : List ℕ → Bool
is_iso text = slice_index text (sign_size text) == capital_p

-- the bytes of a text up to a place, or all of them
abbrev pub up_to : Option ℕ → List ℕ → List ℕ
up_to None text = text
up_to (Some place) text = take place text

-- the bytes of a text before its first `T`
abbrev pub before_time : List ℕ → List ℕ
before_time text = up_to (position (λ byte. byte == capital_t) text) text

-- where the first item of years or months of a duration has its designator: a `Y`, or an `M`
-- before the `T`; the days and the clock of the other forms have neither
unfoldable pub years_or_months : List ℕ → Option ℕ
years_or_months text =
    if is_iso text
    then position (λ byte. (byte == capital_y) || (byte == capital_m)) (before_time text)
    else None

-- Clocks after negative days, as in `-1 day, 23:00:00`: here they are subtracted too, and where
-- Python prints them they are added.

-- `d` or `D`, with which a word for days begins
abbrev pub is_day_letter : ℕ → Bool
is_day_letter byte = (byte == 68) || (byte == 100)

-- a byte with which a clock begins, whose hours may have no digits
abbrev pub begins_clock : ℕ → Bool
begins_clock byte = is_ascii_digit byte || (byte == colon)

-- the place of the clock after days, by the place of the letter with which their word begins
abbrev pub clock_after : List ℕ → Option ℕ → Option ℕ
clock_after text None = None
clock_after text (Some day) =
    option_map (λ place. day + place) (position begins_clock (drop day text))

-- the place of the clock of a text that has days with a minus before it
unfoldable pub clock_after_minus : List ℕ → Option ℕ
clock_after_minus text =
    if not (has_minus text) || is_iso text then None
    else clock_after text (position is_day_letter text)

-- Digits of a fraction past the sixth, which the library rounds in texts of ISO 8601.

-- a place of a text, if a digit is there
abbrev pub with_digit : List ℕ → Option ℕ → Option ℕ
with_digit text None = None
with_digit text (Some place) = if is_ascii_digit (slice_index text place) then Some place else None

-- the place of the seventh digit of a fraction in a text of ISO 8601, which has only one
unfoldable pub seventh_digit : List ℕ → Option ℕ
seventh_digit text =
    if is_iso text
    then with_digit text (option_map (λ place. place + 7) (position is_decimal_mark text))
    else None

-- What duration is a part of a line.

-- the duration that a text is
unfoldable pub duration_whole : List ℕ → Result DurationNumbers Refused
duration_whole text = duration_answer IsoOrder.Lax Behavior.Error text

-- what makes a duration inexact that begins at a byte of a line, by its place, before what else may
abbrev pub bad_at : ℕ → Why → Option ℕ → Option Bad → Option Bad
bad_at from why None other = other
bad_at from why (Some place) other = Some (record { place = from + place; why = why })

-- what is not exact about a duration that begins at a byte of a line, by its text
unfoldable pub inexact : ℕ → List ℕ → Option Bad
inexact from text =
    bad_at from Why.NoYearsOrMonths (years_or_months text)
    (bad_at from Why.NoClock (clock_after_minus text)
    (bad_at from Why.SixDigits (seventh_digit text) None))

-- a duration, if nothing is bad about it
abbrev pub unless_bad : Option Bad → DurationNumbers → Result DurationNumbers Bad
unless_bad None numbers = Ok numbers
unless_bad (Some bad) numbers = Err bad

-- what was parsed from a byte of a line on
abbrev pub exact_from : ℕ → List ℕ → Result DurationNumbers Refused → Result DurationNumbers Bad
exact_from from text (Ok numbers) = unless_bad (inexact from text) numbers
exact_from from text (Err refused) =
    Err (record { place = from + refused.place; why = Why.Parse refused.fault })

-- the duration that a part of a line is, if it is exact
unfoldable pub exact_between : List ℕ → ℕ → ℕ → Result DurationNumbers Bad
exact_between head from to =
    exact_from from (part head from to) (duration_whole (part head from to))

-- What duration a line has.

-- a duration, or what is bad
abbrev pub or_bad : Result DurationNumbers Bad → Result DurationNumbers Reading
or_bad (Ok numbers) = Ok numbers
or_bad (Err bad) = Err (Reading.Bad bad)

-- the duration of a field that ends before the cut of a longer line; an empty field has none
abbrev pub field_duration : List ℕ → Field → Result DurationNumbers Reading
field_duration head field =
    if field.from == field.to then Err (undated_field field)
    else or_bad (alone field (exact_between head field.from field.to))

-- the duration of a line by where its field is, if it is there
abbrev pub duration_in : List ℕ → Option Field → Result DurationNumbers Reading
duration_in head None = Err (without_field head)
duration_in head (Some field) =
    if is_cut head field.end then Err (not_within field.from)
    else field_duration head field

-- all of a line but a byte order mark, as a field
abbrev pub whole_line : List ℕ → Field
whole_line head =
    let text = fields_of head in
    record { from = mark_length text; to = length text; end = length text }

-- a duration after a word can end before these bytes: a comma before a digit may begin a fraction
abbrev pub ends_duration : List ℕ → Bool
ends_duration rest =
    is_boundary rest && not ((slice_index rest 0 == comma) && is_ascii_digit (slice_index rest 1))

-- how many bytes of a text a duration at its front may have: it can end before the byte after them
unfoldable pub length_to_end : List ℕ → ℕ
length_to_end [] = 0
length_to_end (byte ∷ bytes) =
    if ends_duration (byte ∷ bytes) then 0 else 1 + length_to_end bytes

-- the bytes of a text from one on up to where a duration can end after its sign, as a field
abbrev pub run_from : List ℕ → ℕ → Field
run_from text from =
    let start = from + sign_size (drop from text) in
    let to = start + length_to_end (drop start text) in
    record { from = from; to = to; end = to }

-- the duration after a word of a text, as a field, if one is claimed after it
abbrev pub run_after : List ℕ → List ℕ → Option Field
run_after word text = option_map (run_from text) (claim_after Wanted.Duration word text)

-- where the text of a duration is: a field, what comes after a word up to where a value can end, or
-- the whole line
abbrev pub duration_place : Place → List ℕ → Option Field
duration_place Place.Front head = Some (whole_line head)
duration_place (Place.Field which) head = nth_field which (fields_of head)
duration_place (Place.After word) head = run_after word.now (fields_of head)

-- the duration of a line, or what is read of a line that has none
unfoldable pub read_duration : Reader → List ℕ → Result DurationNumbers Reading
read_duration reader head = duration_in head (duration_place reader.place head)

-- a duration that was read, or what the line is instead
abbrev pub judged_amount : Scan → List ℕ → Result DurationNumbers Reading
    → Result DurationNumbers LineKind
judged_amount scan head (Ok numbers) = Ok numbers
judged_amount scan head (Err reading) = Err (judged scan head reading)

-- the duration of a line, or what a line is that has none, by its head
unfoldable pub amount_of : Scan → List ℕ → Result DurationNumbers LineKind
amount_of scan head =
    if is_stopped scan.stop then Err LineKind.Late
    else if scan.has_header && (scan.number == 0) then Err LineKind.Header
    else judged_amount scan head (read_duration scan.reader head)
