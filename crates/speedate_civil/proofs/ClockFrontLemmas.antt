-- The clock at the front of a text, as its eight bytes give its hour and its minute.
use Rattle.std.proofs.lemmas.Bool.Decides.{nat_tests}
use Rattle.std.proofs.Common.{rules}
use Rattle.std.proofs.Common.{◌≡◌, ◌∙◌, ap, sym, subst, ℕ, ◌<◌, ◌≤◌, ◌==◌, Bool, true, false, ◌&&◌, if◌then◌else◌, List, length, get_or, drop, slice_index, codes, Result, Ok, Err, ◌+◌, arith, get_or-drop, le-leb}
use Rattle.speedate_civil.specs.Base.{Behavior, ParseError}
use Rattle.std.proofs.lemmas.Bool.{and_from}
use Rattle.std.proofs.lemmas.Grind.{common_steps}
use Rattle.speedate_base.specs.Ascii.{colon}
use Rattle.speedate_base.specs.Digits.{two_digits_at, two_digit_value, eight_at, fit_length}
use Rattle.speedate_base.specs.Digits.{fit_digits, digit_pairs}
use Rattle.speedate_base.specs.Requirement.{first_refusal_or, result_map, shifted}
use Rattle.speedate_base.proofs.PatternLemmas.{fit_length-all}
use Rattle.speedate_civil.specs.Time.{Clock, at_hour, clock_front, minute_clock, minute_front}
use Rattle.speedate_civil.specs.Time.{second_table}
use Rattle.speedate_base.proofs.RefusalLemmas.{seen-map, seen-part, seen-table}
use Rattle.speedate_base.specs.Refused.{seen_as}

-- a clock as it looks
abbrev pub pattern : List ℕ
pattern = codes "00:00:00"

-- what is known of a text whose front looks so up to the minute
pub record Front (text numbers : List ℕ) : Type 0 where
  pub hour : two_digits_at text 0 ≡ true
  pub separator : (slice_index text 2 == colon) ≡ true
  pub minute : two_digits_at (drop 3 text) 0 ≡ true
  pub hour_is : get_or numbers 0 0 ≡ two_digit_value text 0
  pub minute_is : get_or numbers 3 0 ≡ two_digit_value (drop 3 text) 0

front_is : (text : List ℕ) → 5 ≤ fit_length pattern (eight_at text 0)
    → Front text (digit_pairs (fit_digits 5 pattern (eight_at text 0)))
front_is text fits = grind (arith, common_steps, and_from, get_or-drop, fit_length-all)

pub front-read : (text front numbers : List ℕ) (fits : ℕ) → front ≡ eight_at text 0
    → fits ≡ fit_length pattern front → 5 ≤ fits
    → numbers ≡ digit_pairs (fit_digits 5 pattern front) → Front text numbers
front-read text front numbers fits from counted enough spelled =
    let same = counted ∙ ap (fit_length pattern) from in
    let five = subst (λ (count : ℕ). 5 ≤ count) same enough in
    let is = spelled ∙ ap (λ (block : List ℕ). digit_pairs (fit_digits 5 pattern block)) from in
    subst (λ (all : List ℕ). Front text all) (sym is) (front_is text five)

-- the answer to a clock of this hour whose table up to the minute is met
abbrev pub after_table : {E : Type 0} → (ParseError → ℕ → E) → Behavior → List ℕ → ℕ
    → Result Clock E
after_table refuse behavior text hour =
    let rest = drop 3 text in
    result_map (at_hour hour)
    (first_refusal_or refuse (second_table behavior rest) (Ok (minute_clock rest)))

-- the rows of the hour and the minute hold, so what follows the minute decides
pub decided : {E : Type 0} (refuse : ParseError → ℕ → E) (start : ℕ) (behavior : Behavior)
    (text numbers : List ℕ) → Front text numbers → 5 ≤ length text
    → get_or numbers 0 0 ≤ 23 → get_or numbers 3 0 ≤ 59
    → seen_as (shifted start refuse) (clock_front behavior text)
    ≡ after_table (shifted (start + 3) refuse) behavior text (get_or numbers 0 0)
decided refuse start behavior text numbers front long early short =
    let minute = subst (λ (n : ℕ). n ≤ 59) front.minute_is short in
    grind (arith, nat_tests, le-leb, seen-map, seen-part, seen-table)

-- the fourth or the fifth of five does not hold
fourth-of : (a b c d e : Bool) (rest count : ℕ)
    → count ≡ (if a then 1 + (if b then 1 + (if c then 1 + (if d then 1
    + (if e then 1 + rest else 0) else 0) else 0) else 0) else 0)
    → 3 ≤ count → count < 5 → ((a && b) ≡ true) × (c ≡ true) × ((d && e) ≡ false)
fourth-of a b c d e rest count is some few = search rules

pub no-minute : {E : Type 0} (refuse : ParseError → ℕ → E) (behavior : Behavior)
    (text front : List ℕ) (fits : ℕ) → 5 ≤ length text
    → front ≡ eight_at text 0 → fits ≡ fit_length pattern front → 3 ≤ fits → fits < 5
    → seen_as refuse (clock_front behavior text) ≡ Err (refuse ParseError.InvalidCharMinute 3)
no-minute refuse behavior text front fits long from counted some few =
    let is : fits ≡ fit_length pattern (eight_at text 0) = counted ∙ ap (fit_length pattern) from in
    let tests = fourth-of _ _ _ _ _ _ fits is some few in
    search (rules, le-leb, get_or-drop)

-- A clock that begins with its minute.

-- what is known of a text whose front looks like a minute
pub record Minute (text numbers : List ℕ) : Type 0 where
  pub digits : two_digits_at text 0 ≡ true
  pub is : get_or numbers 0 0 ≡ two_digit_value text 0

minute_is : (text : List ℕ) → 2 ≤ fit_length pattern (eight_at text 0)
    → Minute text (digit_pairs (fit_digits 2 pattern (eight_at text 0)))
minute_is text fits = grind (arith, common_steps, and_from, fit_length-all)

pub minute-read : (text front numbers : List ℕ) (fits : ℕ) → front ≡ eight_at text 0
    → fits ≡ fit_length pattern front → 2 ≤ fits
    → numbers ≡ digit_pairs (fit_digits 2 pattern front) → Minute text numbers
minute-read text front numbers fits from counted enough spelled = search (rules, minute_is)

-- its range holds, so what follows it decides
pub minute-decided : {E : Type 0} (refuse : ParseError → ℕ → E) (behavior : Behavior)
    (text numbers : List ℕ)
    → Minute text numbers → get_or numbers 0 0 ≤ 59
    → seen_as refuse (minute_front behavior text)
    ≡ first_refusal_or refuse (second_table behavior text) (Ok (minute_clock text))
minute-decided refuse behavior text numbers minute short = search (rules, le-leb, seen-table)

-- two tests of which one does not hold
first-two : (a b : Bool) (rest : ℕ) → (if a then 1 + (if b then 1 + rest else 0) else 0) < 2
    → (a && b) ≡ false
first-two a b rest few = search rules

pub minute-none : {E : Type 0} (refuse : ParseError → ℕ → E) (behavior : Behavior)
    (text front : List ℕ) (fits : ℕ) → front ≡ eight_at text 0
    → fits ≡ fit_length pattern front → fits < 2
    → seen_as refuse (minute_front behavior text) ≡ Err (refuse ParseError.InvalidCharMinute 0)
minute-none refuse behavior text front fits from counted few = search (rules, first-two)
