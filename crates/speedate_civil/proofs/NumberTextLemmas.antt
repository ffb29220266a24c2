-- No text that begins as a date is a number.
use Rattle.std.proofs.Common.{◌≡◌, ◌≢◌, ℕ, ◌<◌, Bool, true, false, ◌==◌, List, length, slice_index, nat_le, if◌then◌else◌, Option, None, ℤ, Result, Ok, Err, refl, rules, arith, ap, eqb-true, leb-true}
use Rattle.speedate_civil.specs.Base.{ParseError}
use Rattle.std.specs.Char.{is_ascii_digit}
use Rattle.speedate_base.specs.Ascii.{hyphen, full_stop}
use Rattle.speedate_base.specs.Digits.{four_digits_at}
use Rattle.speedate_base.specs.Numbers.{Number, NoNumber, number_answer, whole_number, whole_or}
use Rattle.speedate_base.specs.Numbers.{decimal_answer}
use Rattle.speedate_civil.specs.Calendar.{Ymd}
use Rattle.speedate_civil.specs.Date.{date_front, date_answer}
use Rattle.speedate_civil.specs.ParserParts.{may_be_number}
use Rattle.speedate_base.specs.declared.refusal.Refused.{Refused}
use Rattle.speedate_base.specs.Refused.{placed, without_place}
use Rattle.speedate_base.proofs.NumberLemmas.{number_answer-other}

-- a text that meets the first three rows of a table meets the first and the third
rows-met : {A E : Type 0} (a b c : Bool) (first second third : E) (next answer : Result A E)
    → (if a then (if b then (if c then next else Err third) else Err second) else Err first)
    ≡ answer
    → answer ≢ Err first → answer ≢ Err second → answer ≢ Err third → (a ≡ true) × (c ≡ true)
rows-met a b c first second third next answer same one two three = search rules

-- a text whose fifth byte is a hyphen is none
hyphen-no_number : (text : List ℕ) → nat_le 10 (length text) ≡ true
    → (slice_index text 4 == hyphen) ≡ true → number_answer text ≡ NoNumber
hyphen-no_number text long is =
    let within : 4 < length text = omega (arith, leb-true 10 (length text) long) in
    let byte = eqb-true (slice_index text 4) hyphen is in
    number_answer-other text 4 (omega arith) within (ap is_ascii_digit byte)
    (ap (λ (n : ℕ). n == full_stop) byte)

-- so is one that begins with a date
pub number_answer-date : (text : List ℕ) (date : Ymd × ℕ) → date_front text ≡ Ok date
    → number_answer text ≡ NoNumber
number_answer-date text date read = search (rules, rows-met, hyphen-no_number)

other-fault : {A : Type 0} (refused fault : ParseError) (answer : Result A ParseError)
    → may_be_number refused ≡ false → may_be_number fault ≡ true
    → answer ≡ Err refused → answer ≢ Err fault
other-fault refused fault answer behind number same = search rules

-- and one that is refused by a fault after the first hyphen, in an answer that keeps the faults of
-- a date at its front
pub number_answer-refused : {A : Type 0} (text : List ℕ) (answer : Result A Refused)
    (fault : ParseError)
    → ((other : Refused) → date_front text ≡ Err other → answer ≡ Err other)
    → without_place answer ≡ Err fault → may_be_number fault ≡ false
    → number_answer text ≡ NoNumber
number_answer-refused text answer refused keeps read behind =
    let alone = without_place answer in
    let rows = rows-met (nat_le 10 (length text)) (four_digits_at text 0)
    (slice_index text 4 == hyphen)
    (placed ParseError.TooShort (length text)) (placed ParseError.InvalidCharYear 0)
    (placed ParseError.InvalidCharDateSep 4) _ (date_front text) refl
    (λ same. other-fault refused ParseError.TooShort alone behind refl read
    (ap without_place (keeps _ same)))
    (λ same. other-fault refused ParseError.InvalidCharYear alone behind refl read
    (ap without_place (keeps _ same)))
    (λ same. other-fault refused ParseError.InvalidCharDateSep alone behind refl read
    (ap without_place (keeps _ same))) in
    hyphen-no_number text rows.0 rows.1

-- a text that is no number is no whole number
no-whole : (whole : Option ℤ) (decimal : Number) → whole_or whole decimal ≡ NoNumber → whole ≡ None
no-whole whole decimal none = search rules

pub whole_number-none : (text : List ℕ) → number_answer text ≡ NoNumber → whole_number text ≡ None
whole_number-none text none = no-whole (whole_number text) (decimal_answer text) none

pub whole_number-refused : (text : List ℕ) (fault : ParseError)
    → without_place (date_answer text) ≡ Err fault
    → may_be_number fault ≡ false → whole_number text ≡ None
whole_number-refused text refused read behind =
    whole_number-none text (number_answer-refused text (date_answer text) refused
    (λ other is. rw is refl) read behind)
