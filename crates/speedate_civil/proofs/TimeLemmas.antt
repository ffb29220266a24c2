-- The text by which a time is printed is read as the time, where its offset is absent or whole
-- minutes, whatever follows it that is no part of it.
use Rattle.std.proofs.lemmas.Bool.Decides.{nat_tests}
use Rattle.std.proofs.Common.{◌≡◌, ℕ, ◌+◌, ◌*◌, ◌/◌, ◌<◌, ◌≤◌, Bool, true, false, not, ◌||◌, List, [], ◌∷◌, ◌++◌, length, drop, ◌==◌, slice_index, Option, ℤ, is_some, Result, Ok, refl, rules, arith, ◌∙◌, ap, sym, eqb-true, append-nil}
use Rattle.speedate_civil.specs.Base.{Behavior, ParseError}
use Rattle.std.specs.Char.{is_ascii_digit}
use Rattle.speedate_base.specs.Ascii.{colon, full_stop}
use Rattle.std.specs.List.{list_all}
use Rattle.speedate_base.specs.Digits.{two_digit_text, six_digit_text, fraction_value}
use Rattle.speedate_base.specs.Digits.{is_decimal_mark}
use Rattle.speedate_base.specs.Offset.{IsWholeMinutes}
use Rattle.speedate_base.specs.Requirement.{shifted, result_and_then}
use Rattle.speedate_civil.specs.Time.{Clock, at_hour, clock_answer, clock_front, clock_with_offset}
use Rattle.speedate_civil.specs.Time.{minute_text, offset_front, offset_text}
use Rattle.speedate_civil.specs.Time.{TimeOfDay, IsTime, time_after_clock, time_front}
use Rattle.speedate_civil.specs.Time.{time_answer, time_text, is_after_time}
use Rattle.speedate_civil.specs.Time.{begins_offset, cut_time, FractionDigits, three_digit_text}
use Rattle.speedate_civil.specs.Time.{time_text_with}
use Rattle.speedate_base.proofs.RefusalLemmas.{refusal-whole}
use Rattle.speedate_civil.proofs.ClockLemmas.{clock-whole, clock-fraction, clock-secfrac}
use Rattle.speedate_civil.proofs.OffsetLemmas.{offset_text-first, offset_text-front}
use Rattle.speedate_base.proofs.RefusalLemmas.{seen-part, seen_then}
use Rattle.speedate_base.specs.Refused.{seen_as}

-- what is read after a clock, which begins at a byte of the whole text, decides on the time
pub after-read : {E : Type 0} (refuse : ParseError → ℕ → E) (start : ℕ) (clock : Clock)
    (text : List ℕ) (offset : Result (Option ℤ × ℕ) E)
    → offset ≡ seen_as (shifted (start + clock.size) refuse) (offset_front (drop clock.size text))
    → result_and_then (λ (after : Option ℤ × ℕ). Ok
    (clock_with_offset clock after.0, clock.size + after.1)) offset
    ≡ seen_as (shifted start refuse) (time_after_clock text clock)
after-read refuse start clock text offset read = search (rules, seen-part, seen_then)

-- a printed hour, before a clock that is read
pub front-printed : (behavior : Behavior) (hour minute second : ℕ) (tail : List ℕ) (clock : Clock)
    → hour ≤ 23 → minute ≤ 59 → clock_answer behavior (minute_text minute second ++ tail) ≡ Ok clock
    → clock_front behavior (two_digit_text hour ++ colon ∷ minute_text minute second ++ tail)
    ≡ Ok (at_hour hour clock)
front-printed behavior hour minute second tail clock small_hour small_minute answer = search rules

-- the number of three digits, as the fraction of a second
three_digits-printed : (n : ℕ) → n < 1000 → list_all is_ascii_digit (three_digit_text n) ≡ true
three_digits-printed n small = search rules

three_digits-value : (n : ℕ) → fraction_value 6 (three_digit_text n) ≡ n * 1000
three_digits-value n = omega arith

-- a clock with a fraction of three digits is read as it
clock-three : (behavior : Behavior) (minute second number : ℕ) (tail : List ℕ)
    → minute ≤ 59 → second ≤ 59 → number < 1000
    → is_ascii_digit (slice_index tail 0) ≡ false
    → clock_answer behavior (minute_text minute second ++ full_stop ∷ three_digit_text number
    ++ tail)
    ≡ Ok (record {
      hour = 0;
      minute = minute;
      second = second;
      microsecond = number * 1000;
      size = 9;
    })
clock-three behavior minute second number tail small_minute small_second small other =
    search (rules, three_digits-printed, three_digits-value, clock-secfrac)

-- a time with a fraction of six digits, and one of three, whatever follows that is no part of it
six-front : (behavior : Behavior) (time : TimeOfDay) (rest : List ℕ) → IsTime time
    → IsWholeMinutes time.offset
    → (is_some time.offset || not (is_ascii_digit (slice_index rest 0))) ≡ true
    → (is_some time.offset || not (begins_offset rest)) ≡ true
    → time_front behavior (time_text_with FractionDigits.Six time ++ rest)
    ≡ Ok (time, length (time_text_with FractionDigits.Six time))
six-front behavior time rest valid whole ended ends =
    let tail = offset_text time.offset ++ rest in
    let other = offset_text-first is_ascii_digit time.offset rest refl refl refl ended in
    let front = front-printed behavior time.hour time.minute time.second
    (full_stop ∷ six_digit_text time.microsecond ++ tail) _ valid.hour valid.minute
    (clock-fraction behavior time.minute time.second time.microsecond tail valid.minute
    valid.second (omega (arith, valid.microsecond)) other) in
    grind (arith, nat_tests, offset_text-front)

three-front : (behavior : Behavior) (time : TimeOfDay) (rest : List ℕ) → IsTime time
    → IsWholeMinutes time.offset
    → (is_some time.offset || not (is_ascii_digit (slice_index rest 0))) ≡ true
    → (is_some time.offset || not (begins_offset rest)) ≡ true
    → time_front behavior (time_text_with FractionDigits.Three time ++ rest)
    ≡ Ok (cut_time FractionDigits.Three time, length (time_text_with FractionDigits.Three time))
three-front behavior time rest valid whole ended ends =
    let tail = offset_text time.offset ++ rest in
    let other = offset_text-first is_ascii_digit time.offset rest refl refl refl ended in
    let front = front-printed behavior time.hour time.minute time.second
    (full_stop ∷ three_digit_text (time.microsecond / 1000) ++ tail) _ valid.hour valid.minute
    (clock-three behavior time.minute time.second (time.microsecond / 1000) tail valid.minute
    valid.second (omega (arith, valid.microsecond)) other) in
    grind (arith, nat_tests, offset_text-front)

text-front : (behavior : Behavior) (time : TimeOfDay) (rest : List ℕ) (none : Bool) → IsTime time
    → IsWholeMinutes time.offset
    → is_after_time time rest ≡ true → (time.microsecond == 0) ≡ none
    → time_front behavior (time_text time ++ rest) ≡ Ok (time, length (time_text time))
text-front behavior time rest true valid whole after none =
    let tail = offset_text time.offset ++ rest in
    let zero_is : 0 ≡ time.microsecond = sym (eqb-true time.microsecond 0 none) in
    let ended = rw none at after in
    let plain = offset_text-first is_decimal_mark time.offset rest refl refl refl (search rules) in
    let front = front-printed behavior time.hour time.minute time.second tail _ valid.hour
    valid.minute
    (clock-whole behavior time.minute time.second tail valid.minute valid.second plain) in
    search (rules, offset_text-front)
text-front behavior time rest false valid whole after some =
    let ended = rw some at after in
    rw some (six-front behavior time rest valid whole (search rules) (search rules))

pub time_text-front : (behavior : Behavior) (time : TimeOfDay) (rest : List ℕ) → IsTime time
    → IsWholeMinutes time.offset
    → is_after_time time rest ≡ true
    → time_front behavior (time_text time ++ rest) ≡ Ok (time, length (time_text time))
time_text-front behavior time rest valid whole after =
    text-front behavior time rest (time.microsecond == 0) valid whole after refl

-- nothing that follows is no part of a time
pub nothing-after : (time : TimeOfDay) → is_after_time time [] ≡ true
nothing-after time = search rules

-- and alone it is that time
pub time_text-reads : (behavior : Behavior) (time : TimeOfDay) → IsTime time
    → IsWholeMinutes time.offset
    → time_answer behavior (time_text time) ≡ Ok time
time_text-reads behavior time valid whole =
    let text = time_text time in
    let front = sym (ap (time_front behavior) (append-nil text))
    ∙ time_text-front behavior time [] valid whole (nothing-after time) in
    grind (arith, nat_tests, refusal-whole)

-- the text of a time with a number of digits is read as the time, rounded down to these digits
none-continues : (offset : Option ℤ) → (is_some offset || true) ≡ true
none-continues offset = search rules

pub time_text_with-front : (behavior : Behavior) (digits : FractionDigits) (time : TimeOfDay)
    → IsTime time → IsWholeMinutes time.offset
    → time_front behavior (time_text_with digits time)
    ≡ Ok (cut_time digits time, length (time_text_with digits time))
time_text_with-front behavior FractionDigits.Zero time valid whole =
    let cut = cut_time FractionDigits.Zero time in
    sym (ap (time_front behavior) (append-nil (time_text cut)))
    ∙ time_text-front behavior cut [] (record {
      hour = valid.hour;
      minute = valid.minute;
      second = valid.second;
      microsecond = omega arith;
      offset = valid.offset;
    }) whole (nothing-after cut)
time_text_with-front behavior FractionDigits.Three time valid whole =
    sym (ap (time_front behavior) (append-nil (time_text_with FractionDigits.Three time)))
    ∙ three-front behavior time [] valid whole (none-continues time.offset)
    (none-continues time.offset)
time_text_with-front behavior FractionDigits.Six time valid whole =
    sym (ap (time_front behavior) (append-nil (time_text_with FractionDigits.Six time)))
    ∙ six-front behavior time [] valid whole (none-continues time.offset)
    (none-continues time.offset)

pub time_text_with-reads : (behavior : Behavior) (digits : FractionDigits) (time : TimeOfDay)
    → IsTime time → IsWholeMinutes time.offset
    → time_answer behavior (time_text_with digits time) ≡ Ok (cut_time digits time)
time_text_with-reads behavior digits time valid whole =
    search (rules, time_text_with-front, refusal-whole)
