-- The lines of numbers: that they hold no control character, and are read as their numbers.
use Rattle.std.proofs.Common.{rules, of_z, SFits, w64, inl, inr, All, decimal, ◌%◌, ◌/◌, ◌==◌, Bool, ◌≡◌, ◌≢◌, ◌∙◌, ap, sym}
use Rattle.std.proofs.Common.{subst, ℕ, ◌+◌, ◌<◌, ◌≤◌, ◌^◌, List, [], ◌∷◌, ◌++◌, length, append-nil, arith, Option, Some, None, Result, Ok, Err, ℤ, pos, IfErr, IfOk, if◌then◌else◌}
use Rattle.std.proofs.lemmas.Int.{ints}
use Rattle.speedate_civil.specs.Base.{Behavior, ParseError}
use Rattle.std.proofs.lemmas.Fmt.{decimal_by_steps}
use Rattle.std.proofs.lemmas.List.Elements.{All-append, All-cons, All-get_or, All-head, All-nil, All-tail}
use Rattle.std.proofs.lemmas.Bool.Decides.{nat_tests}
use Rattle.speedate_base.specs.Ascii.{HasNoControl, space, capital_d}
use Rattle.speedate_base.specs.Refused.{without_place}
use Rattle.speedate_base.specs.declared.refusal.Refused.{Refused}
use Rattle.speedate_base.specs.Offset.{IsWholeMinutes}
use Rattle.speedate_civil.specs.Calendar.{Ymd, IsDate, days_between}
use Rattle.speedate_civil.specs.Date.{date_text}
use Rattle.speedate_civil.specs.DateTime.{DateAndTime, IsDateAndTime, date_time_front}
use Rattle.speedate_civil.specs.DateTime.{date_time_text, local_microsecond, utc_microsecond}
use Rattle.speedate_civil.specs.Time.{IsTime, TimeOfDay, microsecond_of_day, time_text}
use Rattle.speedate_civil.specs.Time.{timestamp_answer}
use Rattle.speedate_civil.proofs.DateLemmas.{date_text-reads}
use Rattle.speedate_civil.proofs.DateTimeLemmas.{date_time_text-front, date_time_text-reads}
use Rattle.speedate_civil.specs.Loose.{loose_value}
use Rattle.speedate_civil.proofs.NoControlLemmas.{date_time_front-no_control}
use Rattle.speedate_civil.proofs.TimeLemmas.{nothing-after, time_text-reads}
use Rattle.speedate.specs.declared.column.date_time.DateTimeParser.{DateTimeParser}
use Rattle.speedate.specs.Column.{LineError, date_time_of_line, epoch, taken_answer}
use Rattle.speedate.specs.ColumnText.{IsRelaxed, IsShownLine, ReadsClocks, ReadsDates}
use Rattle.speedate.specs.ColumnText.{ReadsDateTimes, ReadsTimes, least_of_64_bits, number_or}
use Rattle.speedate_base.specs.Ascii.{capital_y, digit_zero, full_stop}
use Rattle.speedate_base.specs.Digits.{six_digit_text}
use Rattle.speedate.specs.Column.{number_of_amount}
use Rattle.speedate.specs.ColumnText.{ReadsDurations}
use Rattle.speedate.specs.Duration.{counted_text, days_text, duration_of_amount, duration_text}
use Rattle.speedate.specs.Duration.{hours_text, kept_digit, rest_text}
use Rattle.speedate.specs.Duration.{days_or_clock, seconds_text, short_fraction_text, start_text}
use Rattle.speedate.specs.Duration.{unsigned_answer, without_last_zeros}
use Rattle.speedate.specs.DurationNumbers.{DurationNumbers, IsDuration}
use Rattle.speedate.proofs.DurationLemmas.{signed_amount-kept}
use Rattle.speedate.proofs.IsoTextLemmas.{duration_text-reads}
use Rattle.speedate.proofs.FrontNumberLemmas.{date_number-of_date, date_time_of_line-read}

-- a text that is read whole holds no control character
whole-no_control : {A : Type 0} (answer : Result (A × ℕ) Refused) (text : List ℕ) (value : A)
    → answer ≡ Ok (value, length text)
    → IfOk answer (λ front. HasNoControl front.1 text) → HasNoControl (length text) text
whole-no_control {A = A} answer text value is printed = search rules

-- Dates.

pub date-reads : (answer : List ℕ → Result ℤ LineError) (refused number : ℤ) (date : Ymd)
    → ReadsDates answer refused → IsDate date → days_between epoch date ≡ number
    → number_or refused (answer (date_text date)) ≡ number
date-reads answer refused number date reads valid counted =
    search (rules, date_number-of_date, date_text-reads)

-- Date-times.

pub utc-whole : IsWholeMinutes (Some (pos 0))
utc-whole = search rules

pub none-whole : IsWholeMinutes None
none-whole = search rules

pub date_time_text-no_control : (value : DateAndTime) → IsDateAndTime value
    → IsWholeMinutes value.time.offset
    → HasNoControl (length (date_time_text value)) (date_time_text value)
date_time_text-no_control value valid whole =
    let text = date_time_text value in
    let front = sym (ap (date_time_front Behavior.Error) (append-nil text))
    ∙ date_time_text-front Behavior.Error value [] valid whole (nothing-after value.time) in
    whole-no_control (date_time_front Behavior.Error text) text value front
    (date_time_front-no_control Behavior.Error text)

pub IsShownLine-no_control : (offset : Option ℤ) (number : ℤ) (line : List ℕ)
    → IsWholeMinutes offset → IsShownLine offset number line → HasNoControl (length line) line
IsShownLine-no_control offset number line whole shown =
    elim shown [
      | inl empty ↦ λ k below. absurd (omega (arith, below, ap length empty.1))
      | inr some ↦ subst (λ (text : List ℕ). HasNoControl (length text) text) (sym some.4)
          (date_time_text-no_control some.0 some.1
          (subst IsWholeMinutes (sym some.2) whole))
    ]

relaxed-taken : (parser : DateTimeParser) (line : List ℕ) → IsRelaxed parser
    → taken_answer parser line ≡ Ok tt
relaxed-taken parser line relaxed = search rules

no_date_time : (parser : DateTimeParser) → IsRelaxed parser
    → without_place (date_time_of_line parser []) ≡ Err ParseError.TooShort
unfolding loose_value
no_date_time parser relaxed = search rules

-- the date-time of a line that shows a number, or none
date_time_of_line-shown : (parser : DateTimeParser) (value : DateAndTime) → IsRelaxed parser
    → IsDateAndTime value → IsWholeMinutes value.time.offset
    → without_place (date_time_of_line parser (date_time_text value)) ≡ Ok value
date_time_of_line-shown parser value relaxed valid whole =
    search (rules, date_time_of_line-read, date_time_text-reads, relaxed-taken)

-- in UTC an instant is what the clock shows
utc-local : (value : DateAndTime) → value.time.offset ≡ Some (pos 0)
    → utc_microsecond value ≡ local_microsecond value
utc-local value utc = search rules

pub date_time-reads : (answer : List ℕ → Result ℤ LineError) (refused number : ℤ) (line : List ℕ)
    → ReadsDateTimes answer refused → IsShownLine (Some (pos 0)) number line
    → number_or refused (answer line) ≡ number
date_time-reads answer refused number line reads shown =
    search (rules, no_date_time, utc-whole, date_time_of_line-shown, utc-local)

pub clock-reads : (answer : List ℕ → Result ℤ LineError) (refused number : ℤ) (line : List ℕ)
    → ReadsClocks answer refused → IsShownLine None number line
    → number_or refused (answer line) ≡ number
clock-reads answer refused number line reads shown =
    search (rules, no_date_time, none-whole, date_time_of_line-shown)

-- Times.

pub time-reads : (answer : List ℕ → Result ℤ LineError) (refused number : ℤ) (time : TimeOfDay)
    → ReadsTimes answer refused → IsTime time → IsWholeMinutes time.offset
    → pos (microsecond_of_day time) ≡ number
    → number_or refused (answer (time_text time)) ≡ number
time-reads answer refused number time reads valid whole counted = search (rules, time_text-reads)

-- Durations.

-- the bytes of a text are no control characters
abbrev IsPrinted : List ℕ → Type 0
IsPrinted text = All (λ byte. space ≤ byte) text

printed-no_control : (text : List ℕ) → IsPrinted text → HasNoControl (length text) text
printed-no_control text all k below = All-get_or (λ (byte : ℕ). space ≤ byte) text k 0 below all

one : (byte : ℕ) → space ≤ byte → IsPrinted (byte ∷ [])
one byte is = search (rules, All-cons, All-nil)

both : (first second : List ℕ) → IsPrinted first → IsPrinted second → IsPrinted (first ++ second)
both first second one two = All-append (λ (byte : ℕ). space ≤ byte) first second one two

nothing : IsPrinted []
nothing = All-nil (λ (byte : ℕ). space ≤ byte)

decimal-printed : (number : ℕ) → number < 2 ^ 64 → IsPrinted (decimal number)
decimal-printed =
    decimal_by_steps (λ number text. IsPrinted text)
    (λ number small. one (48 + number) (omega arith))
    (λ number digits long before. both digits ((48 + number % 10) ∷ []) before
    (one (48 + number % 10) (omega arith)))

chosen-printed : (test : Bool) (first second : List ℕ) → IsPrinted first → IsPrinted second
    → IsPrinted (if test then first else second)
chosen-printed test first second one two = search rules

counted-printed : (number unit : ℕ) → number < 2 ^ 64 → space ≤ unit
    → IsPrinted (counted_text number unit)
counted-printed number unit small is = chosen-printed (number == 0) [] _ nothing
    (both (decimal number) (unit ∷ []) (decimal-printed number small) (one unit is))

kept-printed : (digit : ℕ) (rest : List ℕ) → space ≤ digit → IsPrinted rest
    → IsPrinted (kept_digit digit rest)
kept-printed digit [] is all = chosen-printed (digit == digit_zero) [] _ nothing (one digit is)
kept-printed digit (next ∷ rest) is all = both (digit ∷ []) (next ∷ rest) (one digit is) all

without-printed : (digits : List ℕ) → IsPrinted digits → IsPrinted (without_last_zeros digits)
without-printed [] all = nothing
without-printed (digit ∷ digits) all =
    search (rules, kept-printed, All-head, All-tail, without-printed digits)

six-printed : (number : ℕ) → IsPrinted (six_digit_text number)
six-printed number = search (rules, both, one)

fraction-printed : (microsecond : ℕ) → IsPrinted (short_fraction_text microsecond)
fraction-printed microsecond =
    chosen-printed (microsecond == 0) [] _ nothing
    (both (full_stop ∷ []) _ (one full_stop (omega arith))
    (without-printed (six_digit_text microsecond) (six-printed microsecond)))

seconds-printed : (second microsecond : ℕ) → second < 60
    → IsPrinted (seconds_text second microsecond)
seconds-printed second microsecond small =
    search (rules, chosen-printed, nothing, both, decimal-printed, fraction-printed, one)

hours-printed : (numbers : DurationNumbers) → numbers.second < 86400
    → IsPrinted (hours_text numbers)
hours-printed numbers small = search (rules, both, counted-printed, seconds-printed)

rest-printed : (numbers : DurationNumbers) → numbers.second < 86400
    → IsPrinted (rest_text numbers)
rest-printed numbers small = search (rules, chosen-printed, both, one, nothing, hours-printed)

start-printed : (positive : Bool) → IsPrinted (start_text positive)
start-printed positive = search (rules, one, both)

pub duration_text-no_control : (numbers : DurationNumbers) → IsDuration numbers
    → HasNoControl (length (duration_text numbers)) (duration_text numbers)
duration_text-no_control numbers valid =
    let year = numbers.day / 365 in
    let years = counted-printed year capital_y (omega (arith, valid)) (omega arith) in
    let days = counted-printed (numbers.day % 365) capital_d (omega arith) (omega arith) in
    printed-no_control (duration_text numbers)
    (both (start_text numbers.positive ++ days_text numbers) _
    (both (start_text numbers.positive) _ (start-printed numbers.positive)
    (both (counted_text (numbers.day / 365) capital_y) _ years days))
    (rest-printed numbers (omega (arith, valid))))

-- an amount whose size fits 63 bits is its number
amount-kept : (amount : ℤ) → SFits w64 amount → amount ≢ least_of_64_bits
    → number_of_amount amount ≡ Ok amount
amount-kept amount fits other = grind (arith, ints, nat_tests)

pub duration-reads : (answer : List ℕ → Result ℤ LineError) (refused number : ℤ)
    → ReadsDurations answer refused → SFits w64 number → number ≢ least_of_64_bits
    → IsDuration (duration_of_amount number)
    → number_or refused (answer (duration_text (duration_of_amount number))) ≡ number
duration-reads answer refused number reads fits other valid =
    search (rules, duration_text-reads, signed_amount-kept, amount-kept)

pub no_duration-reads : (answer : List ℕ → Result ℤ LineError) (refused number : ℤ)
    → ReadsDurations answer refused → number ≡ least_of_64_bits
    → number_or refused (answer []) ≡ number
unfolding unsigned_answer days_or_clock
no_duration-reads answer refused number reads least = search rules

-- what a printer of a date-time leaves holds no control character
pub line-no_control : {A : Type 0} (result : Result A LineError) (offset : Option ℤ) (number : ℤ)
    (line : List ℕ) → IsWholeMinutes offset
    → IfOk result (λ done. IsShownLine offset number line) → IfErr result (λ error. line ≡ [])
    → HasNoControl (length line) line
line-no_control (Ok done) offset number line whole shown kept =
    IsShownLine-no_control offset number line whole shown
line-no_control (Err error) offset number line whole shown kept =
    λ k below. absurd (omega (arith, below, ap length kept))

-- what follows if something was printed
pub ok-turned : {A : Type 0} (result : Result A LineError) (P Q : Type 0) → (Q → P)
    → IfOk result (λ done. Q) → IfOk result (λ done. P)
ok-turned result P Q turn held = search rules

-- a time of seconds and microseconds has no offset
pub timestamp-offset : (second microsecond : ℕ) (time : TimeOfDay)
    → timestamp_answer second microsecond None ≡ Ok time → IsWholeMinutes time.offset
timestamp-offset second microsecond time is = search rules

-- the smallest number, by its bits
pub least-is : (number : ℤ) → SFits w64 number → of_z w64 number ≡ 9223372036854775808
    → number ≡ least_of_64_bits
least-is number fits is = search rules
