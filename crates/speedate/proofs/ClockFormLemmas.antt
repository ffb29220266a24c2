-- Where the hours of a clock end, and where no letter of a day stands: among digits, and in a
-- clock.
use Rattle.std.proofs.Common.{rules, arith, ◌∙◌, ap, sym, get_or, ◌≡◌, ℕ, ◌-◌, ◌^◌, ◌<◌, ◌≤◌, min, Bool, true, false, List, length, take, ◌==◌, ◌&&◌, nat_lt, nat_le, refl, ◌+◌, ◌||◌, [], ◌∷◌, drop, if◌then◌else◌, Result, Ok, Err}
use Rattle.speedate_civil.specs.Base.{Behavior, ParseError}
use Rattle.std.specs.Char.{is_ascii_digit}
use Rattle.std.specs.List.{list_all, list_any, prefix_len}
use Rattle.std.proofs.lemmas.Bool.{eqb-true}
use Rattle.std.proofs.lemmas.Bool.Decides.{nat_tests}
use Rattle.std.proofs.lemmas.Grind.{common_steps}
use Rattle.std.proofs.lemmas.List.{get_or_past, take-append-drop, drop_more, take_rest}
use Rattle.std.proofs.lemmas.List.Sums.{position_or_len_is, passes_at_first, prefix_len_passes}
use Rattle.speedate_base.specs.Ascii.{colon}
use Rattle.speedate_base.specs.Digits.{run_length, run_value, digits_value, two_digits_at}
use Rattle.speedate_base.proofs.DigitRunLemmas.{run_length-ended, run-whole}
use Rattle.speedate_base.proofs.NumberLemmas.{run-digits}
use Rattle.speedate.specs.ClockForm.{hours, colon_place, has_hours, after_hours, from_minute}
use Rattle.speedate.specs.ClockForm.{clock_end, hours_table, hours_range, rest_table, clock_numbers}
use Rattle.speedate.specs.ClockForm.{clock_form}
use Rattle.std.proofs.lemmas.List.Folds.{list_any-append}
use Rattle.speedate_base.specs.Requirement.{AllHold, ◌implies◌, first_refusal_or, result_and_then}
use Rattle.speedate_base.specs.Requirement.{shifted}
use Rattle.speedate_base.specs.Refused.{first_refused_or, from_byte, placed, seen_as}
use Rattle.speedate_base.specs.declared.refusal.Refused.{Refused}
use Rattle.speedate_base.proofs.RefusalLemmas.{refusal-all, refusal-ok, refusal-value, seen-from}
use Rattle.speedate_base.proofs.RefusalLemmas.{seen-read, seen-tables, seen_then}
use Rattle.speedate_base.proofs.RequirementLemmas.{and_then-ok}
use Rattle.speedate_civil.specs.Time.{Clock, has_decimal_mark, has_second, minute_clock}
use Rattle.speedate_civil.specs.Time.{minute_digits, minute_table, minute_front, clock_answer}
use Rattle.speedate.specs.DayForm.{is_day_letter}
use Rattle.speedate.specs.Duration.{has_days}
use Rattle.speedate.specs.DurationNumbers.{UnsignedDuration}

-- where `:` follows the digits at the front, they are the hours
pub colon_place-run : (text : List ℕ) → get_or text (run_length text 0) 0 ≡ colon
    → (run_length text 0 < length text) × (colon_place text ≡ run_length text 0)
colon_place-run text ends = search (rules, get_or_past, position_or_len_is, prefix_len_passes)

-- where there is a `:`, the hours are digits if and only if the first digits end there
pub hours-run : (text : List ℕ) → nat_lt (colon_place text) (length text) ≡ true
    → list_all is_ascii_digit (hours text) ≡ true → run_length text 0 ≡ colon_place text
hours-run text some digits = search (rules, run_length-ended, passes_at_first)

-- so hours begin a text where `:` follows its first digits, and these are at most ten
has_hours-of : (text : List ℕ) (ends : Bool) → (get_or text (run_length text 0) 0 == colon) ≡ ends
    → has_hours text ≡ (ends && nat_le (run_length text 0) 10)
has_hours-of text ends other =
    search (rules, hours-run, passes_at_first, colon_place-run, eqb-true, run-digits)

pub has_hours-run : (text : List ℕ)
    → has_hours text
    ≡ ((get_or text (run_length text 0) 0 == colon) && nat_le (run_length text 0) 10)
has_hours-run text = has_hours-of text _ refl

-- what the reader of hours cites
pub ruleset hours_rules = (nat_tests, has_hours-run, colon_place-run)

-- hours that are read are the digits that lead
hours-count : (text : List ℕ) → AllHold (hours_table text)
    → digits_value (hours text) ≡ run_value text 0
hours-count text held =
    ap (λ (n : ℕ). digits_value (take n text)) (sym (hours-run text held.1.0 held.1.1.1.0))

-- what the parser of what follows the hours cites
pub ruleset rest_rules = (common_steps, seen_then)

-- the answer to a clock, as a kind of refusal shows it
pub clock_form-seen : {E : Type 0} (refuse : ParseError → ℕ → E) (behavior : Behavior)
    (text : List ℕ)
    → seen_as refuse (clock_form behavior text)
    ≡ first_refusal_or refuse (hours_table text)
    (first_refusal_or refuse (hours_range (digits_value (hours text)))
    (seen_as (shifted (colon_place text + 1) refuse)
    (after_hours behavior (digits_value (hours text)) (from_minute text))))
unfolding clock_form
clock_form-seen refuse behavior text = search (rules, seen-tables, seen-from)

-- if there are too many, the clock is refused
pub clock-many : {E : Type 0} (refuse : ParseError → ℕ → E) (behavior : Behavior) (text : List ℕ)
    (colon count : ℕ)
    → Ok colon ≡ first_refusal_or refuse (hours_table text) (Ok (colon_place text))
    → count ≡ min (run_value text 0) (2 ^ 64 - 1) → 2400000000 < count
    → Err (refuse ParseError.DurationHourValueTooLarge 0)
    ≡ seen_as refuse (clock_form behavior text)
clock-many refuse behavior text colon count read same more =
    search (rules, refusal-value, hours-count, clock_form-seen, refusal-all)

-- otherwise what follows them decides
pub clock-rest : {E : Type 0} (refuse : ParseError → ℕ → E) (behavior : Behavior) (text : List ℕ)
    (colon count : ℕ)
    → Ok colon ≡ first_refusal_or refuse (hours_table text) (Ok (colon_place text))
    → count ≡ min (run_value text 0) (2 ^ 64 - 1) → count ≤ 2400000000
    → seen_as (shifted (colon + 1) refuse) (after_hours behavior count (drop (colon + 1) text))
    ≡ seen_as refuse (clock_form behavior text)
clock-rest refuse behavior text colon count read same few =
    let held = refusal-value refuse (hours_table text) (colon_place text) colon (sym read) in
    let seen = clock_form-seen refuse behavior text in
    grind (arith, nat_tests, held, hours-count text held.0, seen, refusal-all)

digits-no_letter : (text : List ℕ) → list_all is_ascii_digit text ≡ true
    → list_any is_day_letter text ≡ false
digits-no_letter [] all = refl
digits-no_letter (byte ∷ text) all = grind (arith, nat_tests, all, digits-no_letter text)

-- so the letter stands in a text if and only if it stands after the first digits
pub letter-after_digits : (text : List ℕ)
    → list_any is_day_letter (drop (run_length text 0) text) ≡ list_any is_day_letter text
letter-after_digits text =
    let front : List ℕ = take (run_length text 0) text in
    cc (
      digits-no_letter front (run-digits text),
      list_any-append is_day_letter front (drop (run_length text 0) text),
      take-append-drop (run_length text 0) text,
    )

-- what the search for the letter cites
pub ruleset letter_rules = (nat_tests, take_rest, letter-after_digits)

-- digits that end a text, after a point
after-point : (a b c d e p : ℕ) (last : List ℕ) (point : Bool) → ((p == 46) || (p == 44)) ≡ point
    → ((if point then 6 + prefix_len is_ascii_digit last else 5)
    == length (a ∷ b ∷ c ∷ d ∷ e ∷ p ∷ last)) ≡ true
    → list_any is_day_letter (p ∷ last) ≡ false
after-point a b c d e p last true is sized =
    let run = prefix_len is_ascii_digit last in
    let whole : (run == length last) ≡ true = grind (arith, nat_tests, sized) in
    grind (arith, nat_tests, is, digits-no_letter last (sym (run-whole last) ∙ whole))
after-point a b c d e p last false is sized = absurd (grind (arith, nat_tests, sized))

-- what follows the minute of a clock that takes all of a text
after-minute : (a b c : ℕ) (more : List ℕ) (second : Bool)
    → (second implies two_digits_at (a ∷ b ∷ c ∷ more) 3) ≡ true
    → ((if second && has_decimal_mark (a ∷ b ∷ c ∷ more) then 6 + run_length (a ∷ b ∷ c ∷ more) 6
    else (if second then 5 else 2)) == length (a ∷ b ∷ c ∷ more)) ≡ true
    → (second ≡ true) × (list_any is_day_letter more ≡ false)
after-minute a b c more false asked sized = absurd (grind (arith, nat_tests, sized))
after-minute a b c [] true asked sized = (refl, refl)
after-minute a b c (d ∷ []) true asked sized = (refl, grind (arith, nat_tests, asked))
after-minute a b c (d ∷ e ∷ []) true asked sized = (refl, grind (arith, nat_tests, asked))
after-minute a b c (d ∷ e ∷ p ∷ last) true asked sized =
    (refl, grind (arith, nat_tests, asked, after-point a b c d e p last _ refl sized))

-- no letter stands in a clock, from its minute on, that takes all of a text
minute-no_letter : (rest : List ℕ) → two_digits_at rest 0 ≡ true
    → (has_second rest implies two_digits_at rest 3) ≡ true
    → ((minute_clock rest).size == length rest) ≡ true → list_any is_day_letter rest ≡ false
minute-no_letter [] minute asked sized = refl
minute-no_letter (a ∷ []) minute asked sized = grind (arith, nat_tests, minute)
minute-no_letter (a ∷ b ∷ []) minute asked sized = grind (arith, nat_tests, minute)
minute-no_letter (a ∷ b ∷ c ∷ more) minute asked sized =
    let after = after-minute a b c more (c == colon) asked sized in
    grind (arith, nat_tests, minute, after.0, after.1)

colon-no_letter : (byte : ℕ) → (byte == colon) ≡ true → is_day_letter byte ≡ false
colon-no_letter byte same = grind (arith, nat_tests)

-- the answer of a clock, from its minute on, that is to take all of a text
abbrev clock_whole : ℕ → List ℕ → Clock → Result UnsignedDuration Refused
clock_whole count rest clock =
    first_refused_or (clock_end clock rest) (Ok (clock_numbers count clock))

-- no letter stands in a clock, and it has five bytes at least
pub clock-no_letter : (behavior : Behavior) (text : List ℕ) (value : UnsignedDuration)
    → clock_form behavior text ≡ Ok value → has_days text ≡ false
unfolding clock_form
clock-no_letter behavior text value same =
    let first = colon_place text in
    let rest : List ℕ = from_minute text in
    let count = digits_value (hours text) in
    let whole_clock = clock_whole count rest in
    let front_answer = minute_front behavior rest in
    let clocks = result_and_then whole_clock front_answer in
    let after = after_hours behavior count rest in
    let part = from_byte (first + 1) after in
    let ranged = first_refused_or (hours_range count) part in
    let front = refusal-ok placed (hours_table text) ranged value same in
    let range = refusal-ok placed (hours_range count) part value front.1 in
    let inner = seen-read (shifted (first + 1) placed) after value range.1 in
    let ranges = refusal-ok placed (rest_table behavior rest) clocks value inner in
    let read = and_then-ok whole_clock front_answer value ranges.1 in
    let found = read.0 in
    let second_answer = clock_answer behavior rest in
    let minute = refusal-ok placed (minute_digits rest) second_answer found read.1 in
    let table = minute_table behavior rest in
    let clock = refusal-value placed table (minute_clock rest) found minute.1 in
    let numbers : Result UnsignedDuration _ = Ok (clock_numbers count found) in
    let whole = refusal-ok placed (clock_end found rest) numbers value read.2 in
    let sized = ap (λ (clock : Clock). clock.size == length rest) {y = found} clock.1 ∙ whole.0.0 in
    let none = minute-no_letter rest minute.0.0 clock.0.1.0 sized in
    let within : first < length text = grind (arith, nat_tests, front.0.1.0) in
    let at_colon = passes_at_first (λ byte. byte == colon) text 0 within in
    let long : nat_lt (length text) 5 ≡ false = grind (arith, nat_tests, front.0.0) in
    let hours_there = hours-run text front.0.1.0 front.0.1.1.1.0 in
    cc (
      long,
      none,
      hours_there,
      letter-after_digits text,
      drop_more text first 0 within,
      colon-no_letter _ at_colon,
    )
