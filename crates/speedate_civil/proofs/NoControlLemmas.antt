-- No control character stands in a value at the front of a text.
use Rattle.std.proofs.Common.{rules}
use Rattle.std.proofs.Common.{◌≡◌, ℕ, suc, ◌+◌, ◌-◌, ◌≤◌, Bool, true, false, ◌==◌, List, drop, slice_index, Option, ℤ, IfOk, Result, Ok, refl, arith, ap, subst, ◌∙◌, inl, inr}
use Rattle.speedate_civil.specs.Base.{Behavior}
use Rattle.std.proofs.lemmas.Bool.{and_parts, cases_lt}
use Rattle.std.proofs.lemmas.Bool.Decides.{nat_tests}
use Rattle.std.proofs.lemmas.List.{get_or-drop}
use Rattle.std.proofs.lemmas.List.Sums.{prefix_len_passes}
use Rattle.std.specs.Char.{is_ascii_digit}
use Rattle.speedate_base.specs.Ascii.{HasNoControl, colon, space}
use Rattle.speedate_base.specs.Digits.{run_length, four_digits_at, two_digits_at, is_decimal_mark}
use Rattle.speedate_base.specs.Requirement.{AllHold, ◌implies◌}
use Rattle.speedate_civil.specs.Calendar.{Ymd}
use Rattle.speedate_civil.specs.Date.{date_front, date_numbers, date_table}
use Rattle.speedate_civil.specs.DateTime.{date_time_front, is_separator, separator_table}
use Rattle.speedate_civil.specs.Time.{Clock, clock_front, has_decimal_mark, has_minus_sign}
use Rattle.speedate_civil.specs.Time.{has_second, is_plus_or_minus, is_utc, minute_clock}
use Rattle.speedate_civil.specs.Time.{offset_digits, offset_digits_size, offset_front}
use Rattle.speedate_civil.specs.Time.{offset_ranges, signed_front, time_front}
use Rattle.speedate_civil.proofs.FrontLemmas.{clock-read, clock-size, minute_size}
use Rattle.speedate_civil.proofs.OffsetLemmas.{offset-cases}
use Rattle.speedate_base.proofs.RefusalLemmas.{refusal-ok, seen-read}
use Rattle.speedate_base.specs.declared.refusal.Refused.{Refused}
use Rattle.speedate_base.specs.Refused.{placed}
use Rattle.speedate_civil.proofs.ReadLemmas.{read-rows, read-then, read-value}
use Rattle.speedate_base.specs.Refused.{first_refused_or, from_byte}
use Rattle.speedate_base.specs.Requirement.{shifted}
use Rattle.speedate_civil.proofs.ReadLemmas.{read-part}

-- bytes one after the other
none : (text : List ℕ) → HasNoControl 0 text
none text k below = absurd (omega (arith, below))

more : (count : ℕ) (text : List ℕ) → HasNoControl count text → space ≤ slice_index text count
    → HasNoControl (suc count) text
more count text before last k below = search (rules, cases_lt)

joined : (first second : ℕ) (text : List ℕ) → HasNoControl first text
    → HasNoControl second (drop first text) → HasNoControl (first + second) text
joined first second text before after k below = elim (cases_lt k first) [
  | inl small ↦ before k small
  | inr large ↦
      let place : first + (k - first) ≡ k = omega (arith, large) in
      let there = get_or-drop first text (k - first) 0 ∙ ap (slice_index text) place in
      subst (λ (byte : ℕ). space ≤ byte) there (after (k - first) (omega (arith, below, large)))
]

-- the bytes that grammars name
digit : (byte : ℕ) → is_ascii_digit byte ≡ true → space ≤ byte
digit byte is = grind (arith, nat_tests)

first_digit : (text : List ℕ) (place : ℕ) → two_digits_at text place ≡ true
    → space ≤ slice_index text place
first_digit text place are = grind (arith, nat_tests)

second_digit : (text : List ℕ) (place : ℕ) → two_digits_at text place ≡ true
    → space ≤ slice_index text (place + 1)
second_digit text place are = grind (arith, nat_tests)

mark : (byte : ℕ) → is_decimal_mark byte ≡ true → space ≤ byte
mark byte is = grind (arith, nat_tests)

is_colon : (byte : ℕ) → (byte == colon) ≡ true → space ≤ byte
is_colon byte is = grind (arith, nat_tests)

-- two digits after bytes
digits_after : (place : ℕ) (text : List ℕ) → HasNoControl place text
    → two_digits_at text place ≡ true → HasNoControl (place + 2) text
digits_after place text before are = search (rules, more, first_digit, second_digit)

two_digits : (text : List ℕ) → two_digits_at text 0 ≡ true → HasNoControl 2 text
two_digits text are = digits_after 0 text (none text) are

run : (text : List ℕ) (place : ℕ) → HasNoControl (run_length text place) (drop place text)
run text place k below = digit _ (prefix_len_passes is_ascii_digit (drop place text) k 0 below)

-- a date
year : (text : List ℕ) → four_digits_at text 0 ≡ true → HasNoControl 4 text
year text are = search (rules, and_parts, digits_after, two_digits)

date_rows : (text : List ℕ) → AllHold (date_table text) → HasNoControl 10 text
date_rows text rows =
    let to_hyphen = more 4 text (year text rows.1.0) (grind (arith, nat_tests)) in
    search (rules, digits_after, more)

pub date_front-no_control : (text : List ℕ)
    → IfOk (date_front text) (λ front. HasNoControl front.1 text)
date_front-no_control text = search (rules, read-rows, date_rows)

-- a clock, from its minute on
to_second : (rest : List ℕ) → has_second rest ≡ true → two_digits_at rest 0 ≡ true
    → two_digits_at rest 3 ≡ true → HasNoControl 5 rest
to_second rest there digits seconds = search (rules, more, two_digits, is_colon, digits_after)

minute : (rest : List ℕ) (second point : Bool) → has_second rest ≡ second
    → has_decimal_mark rest ≡ point
    → two_digits_at rest 0 ≡ true → (second implies two_digits_at rest 3) ≡ true
    → HasNoControl (minute_size second point (run_length rest 6)) rest
minute rest false point other unread digits seconds = two_digits rest digits
minute rest true false there unread digits seconds = to_second rest there digits seconds
minute rest true true there point digits seconds =
    let to_point = more 5 rest (to_second rest there digits seconds) (mark _ point) in
    joined 6 (run_length rest 6) rest to_point (run rest 6)

-- a clock, from its hour on
clock-no_control : (behavior : Behavior) (text : List ℕ) (clock : Clock)
    → clock_front behavior text ≡ Ok clock → HasNoControl clock.size text
clock-no_control behavior text clock read =
    let rows = clock-read behavior text clock read in
    let rest : List ℕ = drop 3 text in
    let to_colon = more 2 text (two_digits text rows.hour.1.0) (is_colon _ rows.hour.1.1.0) in
    let after = minute rest (has_second rest) (has_decimal_mark rest) refl refl in
    let from_minute = after rows.digits.0 rows.minute.1.0 in
    let printed = joined 3 (minute_clock rest).size text to_colon from_minute in
    subst (λ (size : ℕ). HasNoControl size text) (clock-size behavior text clock read) printed

-- an offset, after its sign
offset_numbers : (numbers : List ℕ) (there : Bool) → (slice_index numbers 2 == colon) ≡ there
    → AllHold (offset_digits numbers)
    → HasNoControl (offset_digits_size numbers) numbers
offset_numbers numbers there is rows = search (rules, more, two_digits, is_colon, digits_after)

signed : (west : Bool) (sign : ℕ) (rest : List ℕ) → HasNoControl sign rest
    → IfOk (signed_front west sign (drop sign rest)) (λ front. HasNoControl front.1 rest)
signed west sign rest before =
    let numbers : List ℕ = drop sign rest in
    let IsPrinted = λ (front : Option ℤ × ℕ). HasNoControl front.1 rest in
    read-rows IsPrinted (offset_digits numbers) _ (λ digits.
    let after = offset_numbers numbers (slice_index numbers 2 == colon) refl digits in
    let printed = joined sign (offset_digits_size numbers) rest before after in
    read-rows IsPrinted (offset_ranges numbers) _ (λ ranges. printed))

-- an offset, by what it begins with
sign_byte : (byte : ℕ) → is_plus_or_minus byte ≡ true → space ≤ byte
sign_byte byte is = grind (arith, nat_tests)

utc_byte : (byte : ℕ) → is_utc byte ≡ true → space ≤ byte
utc_byte byte is = grind (arith, nat_tests)

minus_sign : (rest : List ℕ) → has_minus_sign rest ≡ true → HasNoControl 3 rest
minus_sign rest there = search (rules, more, none)

offset : (rest : List ℕ) → IfOk (offset_front rest) (λ front. HasNoControl front.1 rest)
offset rest =
    let first = more 0 rest (none rest) in
    search (rules, offset-cases, signed, sign_byte, utc_byte, minus_sign, none)

-- a time: a clock and an offset
pub time_front-no_control : (behavior : Behavior) (text : List ℕ)
    → IfOk (time_front behavior text) (λ front. HasNoControl front.1 text)
time_front-no_control behavior text =
    read-then _ _ (clock_front behavior text) (λ clock read.
    let rest : List ℕ = drop clock.size text in
    let before = clock-no_control behavior text clock read in
    read-part _ _ _ (offset_front rest) (λ front after.
    let printed = read-value _ (offset_front rest) front after (offset rest) in
    joined clock.size front.1 text before printed))

-- a date-time: a date, a separator and a time
separator : (byte : ℕ) → is_separator byte ≡ true → space ≤ byte
separator byte is = grind (arith, nat_tests)

pub date_time_front-no_control : (behavior : Behavior) (text : List ℕ)
    → IfOk (date_time_front behavior text) (λ front. HasNoControl front.1 text)
date_time_front-no_control behavior text =
    let rest : List ℕ = drop 11 text in
    let answer = time_front behavior rest in
    let table = separator_table text in
    let value : Result (Ymd × ℕ) Refused = Ok (date_numbers text, 10) in
    read-then _ _ (date_front text) (λ date dated.
    let rows = (refusal-ok placed (date_table text) value date dated).0 in
    read-then _ _ (first_refused_or table (from_byte 11 answer)) (λ time read.
    let after = refusal-ok placed table (from_byte 11 answer) time read in
    let before = more 10 text (date_rows text rows) (separator _ after.0.0) in
    let is = seen-read (shifted 11 placed) answer time after.1 in
    let printed = read-value _ answer time is (time_front-no_control behavior rest) in
    joined 11 time.1 text before printed))
