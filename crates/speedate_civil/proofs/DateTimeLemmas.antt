-- The text by which a date-time is printed is read as the date-time, where its offset is absent or
-- whole minutes, whatever follows it that is no part of it.
use Rattle.std.proofs.lemmas.Bool.Decides.{nat_tests}
use Rattle.std.proofs.Common.{◌≡◌, ℕ, ◌+◌, true, List, [], ◌∷◌, ◌++◌, length, Ok, refl, ◌∙◌, ap, arith, sym, append-nil}
use Rattle.std.proofs.lemmas.Grind.{common_steps}
use Rattle.speedate_civil.specs.Base.{Behavior}
use Rattle.speedate_base.specs.Ascii.{capital_t}
use Rattle.speedate_base.specs.Offset.{IsWholeMinutes}
use Rattle.speedate_civil.specs.DateTime.{DateAndTime, IsDateAndTime, date_time_front}
use Rattle.speedate_civil.specs.DateTime.{date_time_answer, date_time_text}
use Rattle.speedate_civil.specs.DateTime.{cut_date_time, date_time_text_with}
use Rattle.speedate_civil.specs.Time.{time_text, is_after_time, FractionDigits}
use Rattle.speedate_civil.specs.Time.{time_text_with}
use Rattle.speedate_civil.proofs.DateLemmas.{date_text-front}
use Rattle.speedate_civil.proofs.FrontLemmas.{date_time_front-is}
use Rattle.speedate_base.proofs.RefusalLemmas.{refusal-whole}
use Rattle.speedate_civil.proofs.TimeLemmas.{time_text-front, time_text_with-front}
use Rattle.speedate_civil.proofs.TimeLemmas.{nothing-after}

-- a date with its letter, and then a time, that were appended one after another
pub date_time-joined : (old first second date time : List ℕ)
    → first ≡ old ++ date ++ capital_t ∷ [] → second ≡ first ++ time
    → second ≡ old ++ (date ++ capital_t ∷ time)
date_time-joined old first second date time one two = grind (arith, common_steps)

-- the text by which a date-time is printed, at the front of another that is no part of it, is read
-- as that date-time
pub date_time_text-front : (behavior : Behavior) (value : DateAndTime) (rest : List ℕ)
    → IsDateAndTime value
    → IsWholeMinutes value.time.offset → is_after_time value.time rest ≡ true
    → date_time_front behavior (date_time_text value ++ rest)
    ≡ Ok (value, length (date_time_text value))
date_time_text-front behavior value rest valid whole after =
    let long : 11 + length (time_text value.time) ≡ length (date_time_text value) = omega arith in
    date_time_front-is behavior (date_time_text value ++ rest) (value.date, 10)
    (value.time, length (time_text value.time))
    (date_text-front value.date (capital_t ∷ time_text value.time ++ rest) valid.date) (refl, tt)
    (time_text-front behavior value.time rest valid.time whole after)
    ∙ ap (λ (size : ℕ). Ok (value, size)) long

-- and alone it is that date-time
pub date_time_text-reads : (behavior : Behavior) (value : DateAndTime) → IsDateAndTime value
    → IsWholeMinutes value.time.offset
    → date_time_answer behavior (date_time_text value) ≡ Ok value
date_time_text-reads behavior value valid whole =
    let text = date_time_text value in
    let front = sym (ap (date_time_front behavior) (append-nil text))
    ∙ date_time_text-front behavior value [] valid whole (nothing-after value.time) in
    grind (arith, nat_tests, refusal-whole)

-- the text of a date-time with a number of digits is read as the date-time, rounded down to these
-- digits
pub date_time_text_with-reads : (behavior : Behavior) (digits : FractionDigits)
    (value : DateAndTime)
    → IsDateAndTime value → IsWholeMinutes value.time.offset
    → date_time_answer behavior (date_time_text_with digits value) ≡ Ok (cut_date_time digits value)
date_time_text_with-reads behavior digits value valid whole =
    let text = date_time_text_with digits value in
    let cut = cut_date_time digits value in
    let time = time_text_with digits value.time in
    let long : 11 + length time ≡ length text = omega arith in
    let front = date_time_front-is behavior text (value.date, 10) (cut.time, length time)
    (date_text-front value.date (capital_t ∷ time) valid.date) (refl, tt)
    (time_text_with-front behavior digits value.time valid.time whole)
    ∙ ap (λ (size : ℕ). Ok (cut, size)) long in
    grind (arith, nat_tests, refusal-whole)
