-- A printed time at the front of a text is read as itself if and only if what follows is no part of
-- it. So is a printed date-time.
use Rattle.std.proofs.Common.{◌≡◌, ◌↔◌, ℕ, ◌≤◌, ◌<◌, Bool, true, false, ◌==◌, List, ◌∷◌, ◌++◌, length, drop, slice_index, None, IfOk, Ok, refl, rules, arith, ◌∙◌, ap, sym}
use Rattle.speedate_civil.specs.Base.{Behavior}
use Rattle.std.proofs.lemmas.Grind.{common_steps}
use Rattle.std.proofs.lemmas.Bool.Decides.{nat_tests}
use Rattle.std.specs.Char.{is_ascii_digit}
use Rattle.speedate_base.specs.Ascii.{colon, full_stop}
use Rattle.speedate_base.specs.Digits.{run_length, six_digit_text, two_digit_text, is_decimal_mark}
use Rattle.speedate_base.specs.Offset.{IsWholeMinutes}
use Rattle.speedate_civil.specs.Time.{Clock, clock_front, minute_text, begins_offset, offset_front}
use Rattle.speedate_civil.specs.Time.{TimeOfDay, IsTime, continues_fraction}
use Rattle.speedate_civil.specs.Time.{is_after_time, time_front, time_text}
use Rattle.speedate_civil.specs.DateTime.{DateAndTime, IsDateAndTime, date_time_front}
use Rattle.speedate_civil.specs.DateTime.{date_time_text, separator_table}
use Rattle.speedate_civil.specs.Date.{date_front}
use Rattle.speedate_civil.proofs.DateTimeLemmas.{date_time_text-front}
use Rattle.speedate_civil.proofs.ReadLemmas.{read-then, read-value}
use Rattle.speedate_civil.proofs.TimeLemmas.{time_text-front}
use Rattle.speedate_base.specs.Refused.{first_refused_or, from_byte}
use Rattle.speedate_civil.proofs.ReadLemmas.{read-part}
use Rattle.speedate_base.proofs.RefusalLemmas.{refusal-ok, seen-read}
use Rattle.speedate_base.specs.Refused.{placed}
use Rattle.speedate_base.specs.Requirement.{shifted}

begins-none : (rest : List ℕ)
    → IfOk (offset_front rest) (λ front. front.0 ≡ None → begins_offset rest ≡ false)
begins-none rest = search rules

second-ends : (behavior : Behavior) (hour minute second : ℕ) (rest : List ℕ) (clock : Clock)
    → clock_front behavior (two_digit_text hour ++ colon ∷ minute_text minute second ++ rest)
    ≡ Ok clock
    → clock.size ≤ 8
    → (is_decimal_mark (slice_index rest 0) ≡ false) × (clock.size ≡ 8)
second-ends behavior hour minute second rest clock read small = grind (arith, nat_tests)

no-digit : (rest : List ℕ) → run_length rest 0 ≡ 0 → is_ascii_digit (slice_index rest 0) ≡ false
no-digit rest none = grind (arith, common_steps)

fraction-ends : (behavior : Behavior) (hour minute second microsecond : ℕ) (rest : List ℕ)
    (clock : Clock) → microsecond < 1000000
    → clock_front behavior (two_digit_text hour ++ colon ∷ minute_text minute second
    ++ full_stop ∷ six_digit_text microsecond ++ rest) ≡ Ok clock
    → clock.size ≤ 15 → (is_ascii_digit (slice_index rest 0) ≡ false) × (clock.size ≡ 15)
fraction-ends behavior hour minute second microsecond rest clock few read small =
    grind (arith, common_steps, no-digit)

-- if a time is what was read, what follows it is no part of it
abbrev EndsThere : TimeOfDay → List ℕ → TimeOfDay × ℕ → Type 0
EndsThere time rest found =
    ◌≡◌ {A = TimeOfDay × ℕ} found (time, length (time_text time)) → is_after_time time rest ≡ true

-- so what follows a time without an offset, that was read as itself, is no part of it
ends-at : (behavior : Behavior) (time : TimeOfDay) (rest text : List ℕ) (size : ℕ)
    → time_text time ++ rest ≡ text
    → length (time_text time) ≡ size → drop size text ≡ rest → time.offset ≡ None
    → ((clock : Clock) → clock_front behavior text ≡ Ok clock → clock.size ≤ size
    → (continues_fraction time.microsecond rest ≡ false) × (clock.size ≡ size))
    → time_front behavior (time_text time ++ rest) ≡ Ok (time, length (time_text time))
    → is_after_time time rest ≡ true
ends-at behavior time rest text size text_is long left without stops read =
    let front : TimeOfDay × ℕ = (time, length (time_text time)) in
    let fronted = ap (time_front behavior) (sym text_is) ∙ read in
    read-value (EndsThere time rest) (time_front behavior text) front fronted
    (read-then _ _ (clock_front behavior text) (λ clock clocked.
    read-part _ _ _ (offset_front (drop clock.size text)) (λ offset after is.
    let stopped = stops clock clocked (search rules) in
    let here : offset_front rest ≡ Ok offset = search rules in
    let begins = read-value _ (offset_front rest) offset here (begins-none rest) (search rules) in
    rw (without, stopped.0, begins) refl))) refl

ends : (behavior : Behavior) (time : TimeOfDay) (rest : List ℕ) (none : Bool) → IsTime time
    → (time.microsecond == 0) ≡ none → time.offset ≡ None
    → time_front behavior (time_text time ++ rest) ≡ Ok (time, length (time_text time))
    → is_after_time time rest ≡ true
ends behavior time rest true valid none without =
    let of_clock = second-ends behavior time.hour time.minute time.second rest in
    grind (arith, nat_tests, ends-at)
ends behavior time rest false valid some without =
    let of_clock = fraction-ends behavior time.hour time.minute time.second time.microsecond rest in
    grind (arith, nat_tests, ends-at)

-- where its offset is whole minutes, that is the one condition
pub time_text-front-iff : (behavior : Behavior) (time : TimeOfDay) (rest : List ℕ) → IsTime time
    → IsWholeMinutes time.offset
    → (is_after_time time rest ≡ true)
    ↔ (time_front behavior (time_text time ++ rest) ≡ Ok (time, length (time_text time)))
time_text-front-iff behavior time rest valid whole = grind (arith, time_text-front, ends)

-- if a date-time is what was read, what follows it is no part of it
abbrev AllEndsThere : DateAndTime → List ℕ → DateAndTime × ℕ → Type 0
AllEndsThere value rest found =
    ◌≡◌ {A = DateAndTime × ℕ} found (value, length (date_time_text value))
    → is_after_time value.time rest ≡ true

pub date_time_text-front-iff : (behavior : Behavior) (value : DateAndTime) (rest : List ℕ)
    → IsDateAndTime value
    → IsWholeMinutes value.time.offset
    → (is_after_time value.time rest ≡ true)
    ↔ (date_time_front behavior (date_time_text value ++ rest)
    ≡ Ok (value, length (date_time_text value)))
date_time_text-front-iff behavior value rest valid whole = (
  λ after. date_time_text-front behavior value rest valid whole after,
  λ read.
      let text : List ℕ = date_time_text value ++ rest in
      let front : DateAndTime × ℕ = (value, length (date_time_text value)) in
      let Is = AllEndsThere value rest in
      let table = separator_table text in
      let answer = time_front behavior (drop 11 text) in
      let of_time = time_text-front-iff behavior value.time rest valid.time whole in
      read-value Is (date_time_front behavior text) front read
      (read-then Is _ (date_front text) (λ date dated.
      read-then Is _ (first_refused_or table (from_byte 11 answer)) (λ time timed is.
      let after = (refusal-ok placed table (from_byte 11 answer) time timed).1 in
      let read = seen-read (shifted 11 placed) answer time after in
      of_time.1 (search rules)))) refl,
)
