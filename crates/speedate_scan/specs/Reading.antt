-- What is read of a line: where its value begins, and what value stands there.
use Rattle.std.specs.Prelude.{◌≡◌, ◌≤◌, ℕ, ◌+◌, ◌-◌, ◌==◌, ◌&&◌, ◌||◌, not, Bool, false, List, [], ◌∷◌, length, take, drop, slice_index, nat_le, nat_lt, Option, Some, None, is_some, IsSomeAnd, Result, Ok, Err, ℤ, pos, ◌+ℤ◌, ◌*ℤ◌, if◌then◌else◌}
use Rattle.std.specs.Result.{result_unwrap_or}
use Rattle.std.specs.Char.{is_ascii_digit}
use Rattle.speedate.specs.Base.{Behavior, ParseError, TimestampUnit}
use Rattle.speedate.specs.Ascii.{capital_p, capital_t, colon, hyphen, small_t}
use Rattle.speedate.specs.Requirement.{result_map, with_size, ◌>>=◌}
use Rattle.speedate.specs.Refused.{alone_or, placed}
use Rattle.speedate_base.specs.Numbers.{sign_size}
use Rattle.speedate_base.specs.declared.refusal.Refused.{Refused}
use Rattle.speedate.specs.Calendar.{Ymd}
use Rattle.speedate.specs.Date.{date_answer, date_front}
use Rattle.speedate.specs.DateTime.{DateAndTime}
use Rattle.speedate_civil.specs.declared.datetime.DateTime.{DateTime}
use Rattle.speedate.specs.DateTime.{date_time_front, date_time_with_offset}
use Rattle.speedate.specs.DateTime.{date_time_or_timestamp}
use Rattle.speedate.specs.DateTime.{utc_microsecond}
use Rattle.speedate.specs.Lines.{without_return}
use Rattle.speedate.specs.Strict.{strict_date_time_answer}
use Rattle.speedate.specs.Loose.{begins_with, is_boundary, is_half_day, loose_answer, loose_value}
use Rattle.speedate.specs.Time.{end_fault, minute_time}
use Rattle.speedate_stream.specs.Machine.{longest_line}
use Rattle.speedate_scan.specs.Field.{Field, goes_on, mark_length, nth_field}
use Rattle.speedate_scan.specs.Fraction.{value_past_microsecond}
use Rattle.speedate_scan.specs.Timestamp.{fewest_digits, has_number, number_length, whole_digits}
pub use Rattle.speedate_scan.specs.declared.claim.Wanted.{Wanted}
pub use Rattle.speedate_scan.specs.declared.reading.Place.{Place}
pub use Rattle.speedate_scan.specs.declared.form.Form.{Form}
pub use Rattle.speedate_scan.specs.declared.reading.Reader.{Reader}
pub use Rattle.speedate_scan.specs.declared.reading.Why.{Why}
pub use Rattle.speedate_scan.specs.declared.reading.Bad.{Bad}
pub use Rattle.speedate_scan.specs.declared.reading.Found.{Found}
pub use Rattle.speedate_scan.specs.declared.reading.Reading.{Reading}
pub use Rattle.speedate_scan.specs.declared.glance.Glance.{Glance}

-- Values at the front of a text.

-- the date-time that the library reads at the front of a text, and how many bytes it takes
unfoldable pub library_front : Behavior → List ℕ → Result (DateAndTime × ℕ) Refused
library_front behavior text = date_time_front behavior text

-- the date-time of RFC 3339 that a text is
unfoldable pub strict_whole : Behavior → List ℕ → Result DateAndTime Refused
strict_whole behavior text = strict_date_time_answer behavior text

-- the date-time at the front of a text, whose own text is one of RFC 3339 alone
unfoldable pub strict_front : Behavior → List ℕ → Result (DateAndTime × ℕ) Refused
strict_front behavior text = do
  front ← library_front behavior text
  value ← strict_whole behavior (take front.1 text)
  Ok (value, front.1)

-- the midnight of a date
abbrev pub midnight_of : Ymd → DateAndTime
midnight_of date = record { date = date; time = minute_time 0 0 None }

-- the midnight of the date at the front of a text, and how many bytes the date takes
unfoldable pub midnight_front : List ℕ → Result (DateAndTime × ℕ) Refused
midnight_front text =
    result_map (with_size midnight_of) (date_front text)

-- the refusal of a number that the library does not read, since it has more than 64 bits
abbrev pub past_64_bits : List ℕ → Refused
past_64_bits text =
    let is_negative = slice_index text 0 == hyphen in
    placed (if is_negative then ParseError.DateTooSmall else ParseError.DateTooLarge) 0

-- what the library read of a number
abbrev pub or_past_64_bits : List ℕ → Result DateAndTime Refused → Result DateAndTime Refused
or_past_64_bits text (Ok value) = Ok value
or_past_64_bits text (Err refused) =
    if has_number text then Err refused else Err (past_64_bits text)

-- the date-time in UTC of the Unix timestamp that a number is
unfoldable pub timestamp_of : TimestampUnit → Behavior → List ℕ → Result DateAndTime Refused
timestamp_of unit behavior text =
    or_past_64_bits text
    (date_time_or_timestamp unit behavior (Some (pos 0)) text)

-- the date-time in UTC of the Unix timestamp at the front of a text, and how many bytes it takes
unfoldable pub timestamp_front : TimestampUnit → Behavior → List ℕ
    → Result (DateAndTime × ℕ) Refused
timestamp_front unit behavior text = do
  value ← timestamp_of unit behavior (take (number_length unit text) text)
  Ok (value, number_length unit text)

-- the value at the front of a text, and how many bytes it takes
abbrev pub front_of : Form → Behavior → List ℕ → Result (DateAndTime × ℕ) Refused
front_of Form.DateTime behavior text = loose_value behavior text
front_of Form.Strict behavior text = strict_front behavior text
front_of Form.Date behavior text = midnight_front text
front_of (Form.Timestamp unit) behavior text = timestamp_front unit behavior text

-- the value at the front of a text, if nothing follows it
abbrev pub whole_front : List ℕ → DateAndTime × ℕ → Result DateAndTime Refused
whole_front text front = alone_or (λ read. end_fault read.time.offset) text front

-- the date-time in UTC of the Unix timestamp that a text is, without a sign but a minus
unfoldable pub timestamp_whole : TimestampUnit → Behavior → List ℕ → Result DateAndTime Refused
timestamp_whole unit behavior text = do
  front ← timestamp_front unit behavior text
  whole_front text front

-- the midnight of the date that a text is
unfoldable pub midnight_whole : List ℕ → Result DateAndTime Refused
midnight_whole text =
    result_map midnight_of (date_answer text)

-- the value that a text is
abbrev pub whole_of : Form → Behavior → List ℕ → Result DateAndTime Refused
whole_of Form.DateTime behavior text = loose_answer behavior text
whole_of Form.Strict behavior text = strict_whole behavior text
whole_of Form.Date behavior text = midnight_whole text
whole_of (Form.Timestamp unit) behavior text = timestamp_whole unit behavior text

-- Where a value begins.

-- what is looked at of a line
abbrev pub seen : List ℕ → List ℕ
seen head = take longest_line head

-- `[`
abbrev pub left_bracket : ℕ
left_bracket = 91

-- a place that counts from a byte of a text on, as one of the text
abbrev pub moved_place : ℕ → Option ℕ → Option ℕ
moved_place start None = None
moved_place start (Some place) = Some (start + place)

-- how many bytes of a text stand before a value at its front: a byte order mark, a `[`, both, or
-- nothing
abbrev pub length_before_value : List ℕ → ℕ
length_before_value text =
    mark_length text
    + (if slice_index text (mark_length text) == left_bracket then 1 else 0)

-- the byte at a place is a digit
abbrev pub digit_at : List ℕ → ℕ → Bool
digit_at text place = is_ascii_digit (slice_index text place)

-- a text claims to be a date or a date-time: it begins with four digits and a hyphen
unfoldable pub claims_date : List ℕ → Bool
claims_date text =
    digit_at text 0 && digit_at text 1 && digit_at text 2 && digit_at text 3
    && (slice_index text 4 == hyphen)

-- a text claims to be a value: a timestamp has at least one digit less than those of today have
abbrev pub claims : Form → List ℕ → Bool
claims Form.DateTime text = claims_date text
claims Form.Strict text = claims_date text
claims Form.Date text = claims_date text
claims (Form.Timestamp unit) text = nat_le (fewest_digits unit) (whole_digits text)

-- a field claims to be a value: a number of any size is a timestamp
abbrev pub field_claims : Form → List ℕ → Bool
field_claims Form.DateTime text = claims_date text
field_claims Form.Strict text = claims_date text
field_claims Form.Date text = claims_date text
field_claims (Form.Timestamp unit) text = nat_lt 0 (whole_digits text)

-- a text claims to be a duration: it begins with a digit or a `P`, after its sign
abbrev pub claims_duration : List ℕ → Bool
claims_duration text =
    digit_at text (sign_size text) || (slice_index text (sign_size text) == capital_p)

-- a text claims to be what is wanted
abbrev pub claims_wanted : Wanted → List ℕ → Bool
claims_wanted (Wanted.Value form) text = claims form text
claims_wanted Wanted.Duration text = claims_duration text

-- a text begins with a word, and what follows it claims to be what is wanted
abbrev pub begins_claim : Wanted → List ℕ → List ℕ → Bool
begins_claim wanted word text =
    begins_with word text && claims_wanted wanted (drop (length word) text)

-- the byte after the first place of a word in a text at which what follows claims to be what is
-- wanted
unfoldable pub claim_after : Wanted → List ℕ → List ℕ → Option ℕ
claim_after wanted word [] = None
claim_after wanted word (byte ∷ bytes) =
    if begins_claim wanted word (byte ∷ bytes) then Some (length word)
    else moved_place 1 (claim_after wanted word bytes)

-- What value stands there.

-- a line is longer than what is looked at
abbrev pub is_longer : List ℕ → Bool
is_longer head = nat_lt longest_line (length head)

-- how many bytes of a longer line may stand before the end of its value: the sixteen bytes after
-- these are enough to decide where the value ends
abbrev pub value_max : ℕ
value_max = 4080

-- a place is after the last one at which the value of a longer line may end
abbrev pub is_cut : List ℕ → ℕ → Bool
is_cut head place = is_longer head && nat_lt value_max place

-- a value with the offset that one without gets, if it gets one
unfoldable pub assumed : Option ℤ → DateAndTime → DateAndTime
assumed offset value =
    if is_some value.time.offset then value
    else result_unwrap_or (date_time_with_offset offset value) value

-- a colon may follow a timestamp, though not another value
abbrev pub is_number_before_colon : Form → List ℕ → Bool
is_number_before_colon (Form.Timestamp unit) rest = slice_index rest 0 == colon
is_number_before_colon Form.DateTime rest = false
is_number_before_colon Form.Strict rest = false
is_number_before_colon Form.Date rest = false

-- a value can end before these bytes
abbrev pub can_end : Form → List ℕ → Bool
can_end form rest = is_boundary rest || is_number_before_colon form rest

-- a value that was parsed from one byte of a line up to another, where it has to end
abbrev pub ended_at : Reader → List ℕ → DateAndTime → ℕ → Result (DateAndTime × ℕ) Bad
ended_at reader head value to =
    if can_end reader.form (drop to head) then Ok (assumed reader.offset value, to)
    else Err (record { place = to; why = Why.End })

-- no clock begins in what follows a date
abbrev pub is_without_clock : List ℕ → Bool
is_without_clock rest =
    not (digit_at rest 1)
    && ((slice_index rest 0 == capital_t) || (slice_index rest 0 == small_t) || is_boundary rest)

-- a text has a date where a date-time is wanted, by where it was refused: no clock begins after it
abbrev pub lacks_clock : Form → List ℕ → ℕ → Bool
lacks_clock Form.DateTime text place = nat_le 10 place && is_without_clock (drop 10 text)
lacks_clock Form.Strict text place = false
lacks_clock Form.Date text place = false
lacks_clock (Form.Timestamp unit) text place = false

-- a text was refused at the half of the day, after a clock of twelve hours
abbrev pub has_half_day : Form → List ℕ → ℕ → Bool
has_half_day Form.DateTime text place = is_half_day (drop place text)
has_half_day Form.Strict text place = false
has_half_day Form.Date text place = false
has_half_day (Form.Timestamp unit) text place = false

-- what is bad about a text that was refused and begins at a byte of a line
abbrev pub refused_at : Form → List ℕ → Refused → ℕ → Bad
refused_at form text refused from =
    if lacks_clock form text refused.place
    then record { place = from + 10; why = Why.Clock }
    else if has_half_day form text refused.place
    then record { place = from + refused.place; why = Why.HalfDay }
    else record { place = from + refused.place; why = Why.Parse refused.fault }

-- what was parsed at a byte of a line; on a longer line it may not reach too far
abbrev pub parsed_at : Reader → List ℕ → ℕ → Result (DateAndTime × ℕ) Refused
    → Result (DateAndTime × ℕ) Bad
parsed_at reader head start (Ok front) =
    if is_cut head (start + front.1) then Err (record { place = start; why = Why.Within })
    else ended_at reader head front.0 (start + front.1)
parsed_at reader head start (Err refused) =
    if is_cut head (start + refused.place) then Err (record { place = start; why = Why.Within })
    else Err (refused_at reader.form (drop start (seen head)) refused start)

-- the value that begins at a byte of a line, and the byte up to which it stands
unfoldable pub value_at : Reader → List ℕ → ℕ → Result (DateAndTime × ℕ) Bad
value_at reader head start =
    parsed_at reader head start
    (front_of reader.form reader.behavior (drop start (seen head)))

-- the bytes of a line from one up to another
abbrev pub part : List ℕ → ℕ → ℕ → List ℕ
part head from to = take (to - from) (drop from head)

-- the nanosecond of a value that has this text: in UTC if it has an offset, otherwise as its clock
-- shows it
unfoldable pub instant_of : Form → List ℕ → DateAndTime → ℤ
instant_of form text value =
    utc_microsecond value *ℤ pos 1000 +ℤ pos (value_past_microsecond form text)

-- a value that was found from one byte of a line up to another
abbrev pub found_at : Form → List ℕ → DateAndTime → ℕ → ℕ → Found
found_at form head value from to = record {
  from = from;
  to = to;
  instant = instant_of form (part head from to) value;
  offset = value.time.offset;
}

-- a value that was found from a byte of a line on, or what is bad
abbrev pub found_from : Form → List ℕ → ℕ → Result (DateAndTime × ℕ) Bad → Reading
found_from form head start (Ok (value, to)) = Reading.Value (found_at form head value start to)
found_from form head start (Err bad) = Reading.Bad bad

-- What value is a field.

-- what has the fields of a line: a carriage return at its end belongs to none
unfoldable pub fields_of : List ℕ → List ℕ
fields_of head = without_return (not (is_longer head)) (seen head)

-- a value that was parsed from one byte of a line up to another
abbrev pub parsed_between : Reader → List ℕ → ℕ → ℕ → Result DateAndTime Refused
    → Result (DateAndTime × ℕ) Bad
parsed_between reader head from to (Ok value) = Ok (assumed reader.offset value, to)
parsed_between reader head from to (Err refused) =
    Err (refused_at reader.form (part head from to) refused from)

-- the value that a part of a line is, and the byte up to which it stands
unfoldable pub value_between : Reader → List ℕ → ℕ → ℕ → Result (DateAndTime × ℕ) Bad
value_between reader head from to =
    parsed_between reader head from to (whole_of reader.form reader.behavior (part head from to))

-- the value of a field; what stands after the quote that closes it is bad
abbrev pub alone : {A : Type 0} → Field → Result A Bad → Result A Bad
alone field (Ok value) =
    if goes_on field
    then Err (record { place = field.to + 1; why = Why.Parse ParseError.ExtraCharacters })
    else Ok value
alone field (Err bad) = Err bad

-- what is read of a field without a value: what stands after the quote that closes it is bad
abbrev pub undated_field : Field → Reading
undated_field field =
    if goes_on field
    then Reading.Bad (record { place = field.to + 1; why = Why.Parse ParseError.ExtraCharacters })
    else Reading.Undated field.from

-- what is read of a field that ends before the cut of a longer line
abbrev pub read_whole : Reader → List ℕ → Field → Reading
read_whole reader head field =
    if field_claims reader.form (part head field.from field.to)
    then found_from reader.form head field.from
    (alone field (value_between reader head field.from field.to))
    else undated_field field

-- a value that does not lie within what is looked at
abbrev pub not_within : ℕ → Reading
not_within place = Reading.Bad (record { place = place; why = Why.Within })

-- what is read of a line in which the field is not found: a longer line may have it after the cut
abbrev pub without_field : List ℕ → Reading
without_field head =
    if is_longer head then not_within longest_line else Reading.Undated (length (fields_of head))

-- what is read of a line by where its field is, if it is there: a longer line may have more of it
-- after the cut
abbrev pub read_field : Reader → List ℕ → Option Field → Reading
read_field reader head None = without_field head
read_field reader head (Some field) =
    if is_cut head field.end then not_within field.from else read_whole reader head field

-- the byte at which a value is claimed at the front of a line, or what is read of the line
abbrev pub front_claim : Form → List ℕ → Result ℕ Reading
front_claim form head =
    let start = length_before_value (seen head) in
    if claims form (drop start (seen head)) then Ok start else Err (Reading.Undated start)

-- what is read of a line in which no value is claimed after the word: a longer line may have it
-- after the cut
abbrev pub without_claim : List ℕ → Reading
without_claim head =
    if is_longer head then not_within longest_line else Reading.Undated (length head)

-- the byte at which a value is claimed, if one is after a word, or what is read of the line
abbrev pub claimed_or : Reading → Option ℕ → Result ℕ Reading
claimed_or reading None = Err reading
claimed_or reading (Some start) = Ok start

abbrev pub after_claim : Form → List ℕ → List ℕ → Result ℕ Reading
after_claim form word head =
    claimed_or (without_claim head) (claim_after (Wanted.Value form) word (seen head))

-- what is read of a line by the byte at which a value is claimed
abbrev pub read_claim : Reader → List ℕ → Result ℕ Reading → Reading
read_claim reader head (Ok start) =
    found_from reader.form head start (value_at reader head start)
read_claim reader head (Err reading) = reading

-- what is read of a line, by where its value begins
abbrev pub read_at : Reader → List ℕ → Place → Reading
read_at reader head Place.Front = read_claim reader head (front_claim reader.form head)
read_at reader head (Place.After word) =
    read_claim reader head (after_claim reader.form word.now head)
read_at reader head (Place.Field which) =
    read_field reader head (nth_field which (fields_of head))

-- what is read of a line
unfoldable pub read : Reader → List ℕ → Reading
read reader head = read_at reader head reader.place

-- the value that was found in a line, and the byte up to which it stands
abbrev pub value_again : Reader → List ℕ → Found → Place → Result (DateAndTime × ℕ) Bad
value_again reader head found Place.Front = value_at reader head found.from
value_again reader head found (Place.After word) = value_at reader head found.from
value_again reader head found (Place.Field which) = value_between reader head found.from found.to

unfoldable pub value_of : Reader → List ℕ → Found → Result (DateAndTime × ℕ) Bad
value_of reader head found = value_again reader head found reader.place

-- a value lies within a line: it begins within what is looked at
pub record IsWithin (found : Found) (head : List ℕ) : Type 0 where
  pub begins : found.from ≤ length (seen head)
  pub ordered : found.from ≤ found.to
  pub ends : found.to ≤ length head

-- a value that was read lies within its line
abbrev pub IsReadWithin : Reading → List ℕ → Type 0
IsReadWithin (Reading.Value found) head = IsWithin found head
IsReadWithin (Reading.Bad bad) head = Unit {0}
IsReadWithin (Reading.Undated place) head = Unit {0}

-- this holds of the value that a glance finds, and of where it stands
abbrev pub IfValue : Glance → (DateTime → ℕ → ℕ → Type 0) → Type 0
IfValue (Glance.Value value from to) Holds = Holds value from to
IfValue (Glance.Undated place) Holds = Unit {0}
IfValue Glance.Unknown Holds = Unit {0}

-- this holds of the byte at which a value would begin, if a glance finds that there is none
abbrev pub IfUndated : Glance → (ℕ → Type 0) → Type 0
IfUndated (Glance.Value value from to) Holds = Unit {0}
IfUndated (Glance.Undated place) Holds = Holds place
IfUndated Glance.Unknown Holds = Unit {0}

-- what is read is no value
abbrev pub IsWithoutValue : Reading → Type 0
IsWithoutValue (Reading.Value found) = ⊥
IsWithoutValue (Reading.Bad bad) = Unit {0}
IsWithoutValue (Reading.Undated place) = Unit {0}

-- the value that was parsed of a line is the one that was found in it
abbrev pub IsParsed : (Found → Result (DateAndTime × ℕ) Bad) → Reading → Option DateAndTime
    → Type 0
IsParsed value_of (Reading.Value found) value =
    IsSomeAnd value (λ value. value_of found ≡ Ok (value, found.to))
IsParsed value_of (Reading.Bad bad) value = Unit {0}
IsParsed value_of (Reading.Undated place) value = Unit {0}
