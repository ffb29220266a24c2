-- Durations: from texts, in print, and between and after other values.
use Rattle.std.specs.Prelude.{◌≡◌, MatchBool, ℕ, zero, suc, ◌-◌, Bool, not, ◌||◌, List, [], ◌∷◌, length, drop, slice_index, nat_lt, ◌==◌, if◌then◌else◌, Result, Ok, Err, ◌/◌, ◌%◌, ◌&&◌, ◌++◌, codes, true, false, ℤ, pos, negsuc, ◌+ℤ◌, ◌-ℤ◌, ◌*ℤ◌, int_le, unsigned_abs, nat_le}
use Rattle.std.specs.Fmt.{decimal}
use Rattle.std.specs.List.{fold, list_any}
use Rattle.std.specs.Option.{ok_or}
use Rattle.speedate_civil.specs.Base.{Behavior, IsoOrder, ParseError}
use Rattle.speedate_base.specs.Ascii.{capital_p, hyphen, full_stop, digit_zero, capital_d}
use Rattle.speedate_base.specs.Ascii.{capital_h, capital_m, capital_s, capital_t, capital_y}
use Rattle.speedate_base.specs.Digits.{six_digit_text}
use Rattle.speedate_base.specs.Numbers.{has_minus, sign_size, with_sign}
use Rattle.speedate_base.specs.Requirement.{first_fault_or, result_and_then, ◌else_fault◌}
use Rattle.speedate_base.specs.Requirement.{result_map}
use Rattle.speedate_base.specs.Requirement.{◌>>=◌}
use Rattle.speedate_base.specs.declared.refusal.Refused.{Refused}
use Rattle.speedate_base.specs.Refused.{first_refused_or, from_byte, placed, without_place}
use Rattle.speedate_base.specs.Timestamp.{instant_at}
use Rattle.speedate_civil.specs.Calendar.{Ymd, date_added, days_between}
use Rattle.speedate_civil.specs.DateTime.{DateAndTime, local_microsecond, utc_microsecond}
use Rattle.speedate_civil.specs.DateTime.{instant_date_time}
pub use Rattle.speedate.specs.declared.duration.Duration.{Duration}
use Rattle.speedate.specs.declared.duration.sum.DurationSum.{DurationSum}
use Rattle.speedate.specs.ClockForm.{clock_form}
use Rattle.speedate.specs.DayForm.{is_day_letter, day_form}
use Rattle.speedate.specs.DurationNumbers.{DurationNumbers, UnsignedDuration, signed_form}
use Rattle.speedate.specs.DurationNumbers.{signed_day, amount_microseconds, normal_rows, of_amount}
use Rattle.speedate.specs.DurationPlace.{amount_numbers, amount_place}
use Rattle.speedate.specs.IsoForm.{Item, IsoSums, no_sums, item_text, item_at, item_table}
use Rattle.speedate.specs.IsoForm.{with_item, sums_amount, IsEndedFront, IsAnswerFrom}

-- the numbers of a duration
abbrev pub duration_numbers : Duration → DurationNumbers
duration_numbers duration = record {
  positive = duration.positive;
  day = duration.day;
  second = duration.second;
  microsecond = duration.microsecond;
}

infix 15 ◌gives◌
-- the answer of a call, a duration seen as its numbers, is the given one
abbrev pub ◌gives◌ : {E : Type 0} → Result Duration E → Result DurationNumbers E → Type 0
result gives answer = result_map duration_numbers result ≡ answer

-- the normal form of a duration that is given by its sign and its numbers without it, or the fault
-- and the place of its row, which is that of the row's test
abbrev pub signed_answer : ((DurationNumbers → Bool) → ℕ) → Bool → UnsignedDuration
    → Result DurationNumbers Refused
signed_answer place positive amount =
    first_refused_or (normal_rows place (amount_numbers amount))
    (Ok (of_amount positive (amount_microseconds (amount_numbers amount))))

-- The answer to a text of a duration, as a function, which reads the items of an ISO 8601 duration
-- from the left, and as a relation. Which form a text has is the library's own rule.

-- the answer to what is left of an ISO 8601 duration after some items; the skipped bytes are those
-- of the last item
unfoldable pub iso_after : ℕ → IsoSums → List ℕ → Result UnsignedDuration Refused
iso_after skipped sums [] =
    if sums.has_component then Ok (sums_amount sums) else Err (placed ParseError.TooShort 0)
iso_after zero sums (byte ∷ rest) =
    let item = item_at (byte ∷ rest) in
    first_refused_or (item_table sums item)
    (from_byte 1 (iso_after (length (item_text item) - 1) (with_item item sums) rest))
iso_after (suc skipped) sums (byte ∷ rest) = from_byte 1 (iso_after skipped sums rest)

-- the answer to the text that follows some items of an ISO 8601 duration
abbrev pub iso_from : IsoSums → List ℕ → Result UnsignedDuration Refused
iso_from sums text = iso_after 0 sums text

-- the amount that an ISO 8601 duration says after its `P`, or the text's fault and its place
abbrev pub iso_form : IsoOrder → List ℕ → Result UnsignedDuration Refused
iso_form order text = iso_from (no_sums order) text

-- a text has days: the letter of a day stands anywhere in it, or it is too short for a clock
abbrev pub has_days : List ℕ → Bool
has_days text = nat_lt (length text) 5 || list_any is_day_letter text

-- the amount that a text says as days or as a clock, or the text's fault and its place
unfoldable pub days_or_clock : Behavior → List ℕ → Result UnsignedDuration Refused
days_or_clock behavior text =
    if length text == 0 then Err (placed ParseError.TooShort 0)
    else (if has_days text then day_form behavior text else clock_form behavior text)

-- the answer to the text of a duration without its sign: that of an ISO 8601 duration if it begins
-- with `P`
unfoldable pub unsigned_answer : IsoOrder → Behavior → List ℕ → Result UnsignedDuration Refused
unsigned_answer order behavior text =
    if slice_index text 0 == capital_p then from_byte 1 (iso_form order (drop 1 text))
    else days_or_clock behavior text

-- the answer to a text of a duration: the duration that it is, or its fault and its place. The sign
-- and the normal form are applied last
abbrev pub duration_answer : IsoOrder → Behavior → List ℕ → Result DurationNumbers Refused
duration_answer order behavior text =
    let rest = drop (sign_size text) text in
    from_byte (sign_size text)
    (unsigned_answer order behavior rest
    >>= signed_answer (amount_place order rest) (not (has_minus text)))

-- what follows the sign and the `P` of an ISO 8601 duration
abbrev pub iso_body : List ℕ → List ℕ
iso_body text = drop 1 (drop (sign_size text) text)

-- the answer to a text of a duration, as a relation: after the sign and a `P` the text is good
-- items and an end
abbrev pub IsDurationAnswer : IsoOrder → Behavior → List ℕ → Result DurationNumbers ParseError
    → Type 0
IsDurationAnswer order behavior text answer =
    let rest = drop (sign_size text) text in
    (form : Result UnsignedDuration ParseError)
    × MatchBool (slice_index rest 0 == capital_p)
    (IsAnswerFrom (no_sums order) (iso_body text) form)
    (form ≡ without_place (days_or_clock behavior rest))
    × (answer ≡ result_and_then (signed_form (not (has_minus text))) form)

-- an answer to a text of a duration is the grammar's: the relation `IsDurationAnswer` allows it,
-- and allows no other; and of an ISO 8601 duration only one front of good items is followed by an
-- end, whatever is answered there
pub record IsGrammarAnswer (order : IsoOrder) (behavior : Behavior) (text : List ℕ)
    (answer : Result DurationNumbers ParseError) : Type 0 where
  pub is_allowed : IsDurationAnswer order behavior text answer
  pub is_only : (other : Result DurationNumbers ParseError)
      → IsDurationAnswer order behavior text other → other ≡ answer
  pub is_only_front : (items others : List Item) (rest other : List ℕ)
      (first second : Result UnsignedDuration ParseError)
      → IsEndedFront (no_sums order) (iso_body text) items rest first
      → IsEndedFront (no_sums order) (iso_body text) others other second
      → (items ≡ others) × (rest ≡ other)

-- The text of a duration (ISO 8601, duration): years of 365 days, days, hours, minutes and seconds,
-- each if it is not 0. Departs from it: a sign may come first, and the years and days are fixed
-- amounts.

-- a number and its designator, or nothing for 0
abbrev pub counted_text : ℕ → ℕ → List ℕ
counted_text number unit = if number == 0 then [] else decimal number ++ unit ∷ []

-- a digit put before others; nothing for a zero that no digit follows
abbrev pub kept_digit : ℕ → List ℕ → List ℕ
kept_digit digit [] = if digit == digit_zero then [] else digit ∷ []
kept_digit digit (next ∷ rest) = digit ∷ next ∷ rest

-- digits without the zeros at their end
abbrev pub without_last_zeros : List ℕ → List ℕ
without_last_zeros [] = []
without_last_zeros (digit ∷ digits) = kept_digit digit (without_last_zeros digits)

-- a point and the digits of a microsecond without the zeros at their end, or nothing for 0
abbrev pub short_fraction_text : ℕ → List ℕ
short_fraction_text microsecond =
    if microsecond == 0 then [] else full_stop ∷ without_last_zeros (six_digit_text microsecond)

-- a duration is whole days
abbrev pub is_whole_days : DurationNumbers → Bool
is_whole_days numbers = (numbers.second == 0) && (numbers.microsecond == 0)

-- the years and the days of a duration in print
abbrev pub days_text : DurationNumbers → List ℕ
days_text numbers =
    counted_text (numbers.day / 365) capital_y ++ counted_text (numbers.day % 365) capital_d

-- the seconds of a duration with their fraction in print
abbrev pub seconds_text : ℕ → ℕ → List ℕ
seconds_text second microsecond =
    if (second == 0) && (microsecond == 0) then []
    else decimal second ++ short_fraction_text microsecond ++ capital_s ∷ []

-- the hours, minutes and seconds of a duration in print
abbrev pub hours_text : DurationNumbers → List ℕ
hours_text numbers =
    counted_text (numbers.second / 3600) capital_h
    ++ counted_text (numbers.second / 60 % 60) capital_m
    ++ seconds_text (numbers.second % 60) numbers.microsecond

-- what follows the days of a duration in print: `T`, hours, minutes and seconds; nothing after
-- whole days; `T0S` if there is nothing else
abbrev pub rest_text : DurationNumbers → List ℕ
rest_text numbers =
    if is_whole_days numbers then (if numbers.day == 0 then codes "T0S" else [])
    else capital_t ∷ hours_text numbers

-- the start of a duration in print: `P`, after `-` if the duration is negative
abbrev pub start_text : Bool → List ℕ
start_text positive = if positive then capital_p ∷ [] else hyphen ∷ capital_p ∷ []

-- the text of a duration
abbrev pub duration_text : DurationNumbers → List ℕ
duration_text numbers = start_text numbers.positive ++ days_text numbers ++ rest_text numbers

-- The duration between two values, and the value a duration after another, by microseconds of any
-- size.

-- the amount of a duration in microseconds, with its sign
abbrev pub signed_amount : DurationNumbers → ℤ
signed_amount numbers = with_sign (not numbers.positive) (amount_microseconds numbers)

-- the duration of a number of microseconds; zero is positive
abbrev pub duration_of_amount : ℤ → DurationNumbers
duration_of_amount (pos amount) = of_amount true amount
duration_of_amount (negsuc below) = of_amount false (suc below)

-- the duration of a number of microseconds, or the fault of one that has too many days
abbrev pub amount_answer : ℤ → Result DurationNumbers ParseError
amount_answer amount =
    let duration = duration_of_amount amount in
    first_fault_or
    ((nat_le duration.day 999999999 else_fault ParseError.DurationDaysTooLarge) ∷ [])
    (Ok duration)

-- the sum of the amounts of durations in microseconds, each with its sign
abbrev pub amount_sum : {D : Type 0} → (D → DurationNumbers) → List D → ℤ
amount_sum numbers durations =
    fold (λ sum duration. sum +ℤ signed_amount (numbers duration)) (pos 0) durations

-- a sum in microseconds
abbrev pub sum_microseconds : DurationSum → ℤ
sum_microseconds sum = pos 1000000 *ℤ sum.seconds +ℤ sum.microseconds

-- a duration with the other sign
abbrev pub negated : DurationNumbers → DurationNumbers
negated numbers = record numbers { positive = not numbers.positive }

-- a duration, but positive zero for negative zero
abbrev pub with_positive_zero : DurationNumbers → DurationNumbers
with_positive_zero numbers =
    record numbers { positive = numbers.positive || (amount_microseconds numbers == 0) }

-- the duration from one date-time to another, by their instants in UTC; it is negative if the other
-- one is earlier
abbrev pub duration_between : DateAndTime → DateAndTime → DurationNumbers
duration_between earlier later =
    duration_of_amount (utc_microsecond later -ℤ utc_microsecond earlier)

-- the date-time a number of microseconds after another, at its offset, or the fault of a date that
-- is outside the years 0000 to 9999 there
abbrev pub date_time_later : ℤ → DateAndTime → Result DateAndTime ParseError
date_time_later amount start =
    instant_date_time start.time.offset (instant_at (local_microsecond start +ℤ amount))

-- the duration from one date to another, in whole days; zero is positive
abbrev pub duration_between_dates : Ymd → Ymd → DurationNumbers
duration_between_dates earlier later =
    let days = days_between earlier later in
    record { positive = int_le (pos 0) days; day = unsigned_abs days; second = 0; microsecond = 0 }

-- the date a duration after another, or the fault: of a duration which is not whole days, or of a
-- date outside the years 0000 to 9999, which is after them if the duration is positive
abbrev pub date_later : DurationNumbers → Ymd → Result Ymd ParseError
date_later numbers start =
    first_fault_or ((is_whole_days numbers else_fault ParseError.DateNotExact) ∷ [])
    (ok_or (date_added (signed_day numbers) start)
    (if numbers.positive then ParseError.DateTooLarge else ParseError.DateTooSmall))
