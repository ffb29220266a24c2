-- Durations by their amounts: their one normal form, amounts with their sign, the duration between
-- two values, and the value a duration after another.
use Rattle.std.proofs.Common.{rules, arith, ◌∙◌, ap, sym, ◌≡◌, ℕ, ◌<◌, ◌≤◌, Bool, true, false, not, ℤ, pos, neg_ℤ, ◌+ℤ◌, ◌-ℤ◌, ◌*ℤ◌, ◌≤ℤ◌, Option, Ordering, IfSome, Result, Ok, Err, IfOk, unsigned_abs, refl, [], ◌∷◌, ok_or, unwrap_or, int_cmp}
use Rattle.speedate_civil.specs.Base.{ParseError}
use Rattle.std.proofs.lemmas.Int.{ints}
use Rattle.std.proofs.lemmas.Result.{IfOk-weaker}
use Rattle.speedate_base.specs.Numbers.{with_sign}
use Rattle.speedate_base.specs.Timestamp.{seconds_per_day, Instant, first_second, last_second}
use Rattle.speedate_base.specs.Timestamp.{instant_at}
use Rattle.speedate_base.proofs.TimestampLemmas.{instant_at-microsecond, instant_at-is}
use Rattle.speedate_civil.specs.declared.datetime.DateTime.{DateTime}
use Rattle.speedate_civil.specs.DateTime.{DateAndTime, IsDateAndTime, local_second}
use Rattle.speedate_civil.specs.DateTime.{local_microsecond, utc_microsecond, date_and_time}
use Rattle.speedate_civil.specs.DateTime.{IsShownAt}
use Rattle.speedate_civil.proofs.DateTimeInstantLemmas.{instant_date_time-shown}
use Rattle.speedate_civil.proofs.DateTimeTimestampLemmas.{instant_date_time-local}
use Rattle.speedate.specs.Duration.{duration_numbers, Duration, signed_amount, duration_of_amount}
use Rattle.speedate.specs.Duration.{amount_answer, with_positive_zero, duration_between}
use Rattle.speedate.specs.Duration.{date_time_later, negated, date_later, is_whole_days}
use Rattle.speedate.specs.DurationNumbers.{DurationNumbers, IsDuration}
use Rattle.speedate.specs.DurationNumbers.{normal_form, signed_day, signed_seconds}
use Rattle.speedate.specs.DurationNumbers.{signed_microsecond}
use Rattle.speedate_base.specs.Requirement.{fault_alone, ◌else_fault◌, first_fault_or, result_map}
use Rattle.speedate_civil.specs.declared.date.Date.{Date}
use Rattle.speedate_civil.specs.Calendar.{Ymd, day_number, date_order, days_between}
use Rattle.speedate_civil.specs.Date.{ymd}
use Rattle.speedate_civil.proofs.DateOrderLemmas.{counted-order, date_numbered-is}
use Rattle.speedate_base.proofs.RefusalLemmas.{refusal-all}
use Rattle.speedate_civil.proofs.ValueLemmas.{is_day, is_date_and_time, offset-small}
use Rattle.speedate_civil.proofs.ValueLemmas.{local_second-late, local_second-early}

-- the normal form of a duration is itself
pub normal_form-same : (numbers : DurationNumbers) → IsDuration numbers
    → normal_form numbers ≡ Ok numbers
normal_form-same numbers valid = search rules

pub is_duration : (duration : Duration) → IsDuration (duration_numbers duration)
is_duration duration = search rules

-- seconds and microseconds with one sign, joined
pub signed_amount-joined : (numbers : DurationNumbers)
    → signed_amount numbers ≡ pos 1000000 *ℤ signed_seconds numbers +ℤ signed_microsecond numbers
signed_amount-joined numbers = search rules

-- the numbers of an amount have it
pub signed_amount-kept : (amount : ℤ) → signed_amount (duration_of_amount amount) ≡ amount
signed_amount-kept amount = search rules

-- a duration comes back from its amount, but positive zero for negative zero
amount-back : (numbers : DurationNumbers) → IsDuration numbers
    → duration_of_amount (signed_amount numbers) ≡ with_positive_zero numbers
amount-back numbers valid = search rules

pub amount_answer-back : (numbers : DurationNumbers) → IsDuration numbers
    → amount_answer (signed_amount numbers) ≡ Ok (with_positive_zero numbers)
amount_answer-back numbers valid = search (rules, amount-back)

-- what lies so much later, and what lies so much earlier
pub between-later : (earlier later amount : ℤ) → amount ≡ later -ℤ earlier
    → later ≡ earlier +ℤ amount
between-later earlier later amount same = omega (arith, ints)

difference : (earlier later amount : ℤ) → later ≡ earlier +ℤ amount → later -ℤ earlier ≡ amount
difference earlier later amount same = omega (arith, ints)

pub opposite : (later earlier amount back : ℤ) → amount ≡ neg_ℤ back → later ≡ earlier +ℤ amount
    → earlier ≡ later +ℤ back
opposite later earlier amount back turned same = omega (arith, ints)

pub opposite-apart : (amount back other : ℤ) → amount ≡ neg_ℤ back
    → amount -ℤ neg_ℤ other ≡ other -ℤ back
opposite-apart amount back other turned = omega (arith, ints)

-- so the duration between two date-times that lie so far apart is the one of that amount
pub between-exact : (earlier later : DateAndTime) (numbers : DurationNumbers) → IsDuration numbers
    → utc_microsecond later ≡ utc_microsecond earlier +ℤ signed_amount numbers
    → duration_between earlier later ≡ with_positive_zero numbers
between-exact earlier later numbers valid same =
    ap duration_of_amount (difference _ _ _ same) ∙ amount-back numbers valid

-- at one offset clocks are as far apart as the instants are
moved : (second local offset amount : ℤ) (microsecond own : ℕ)
    → pos 1000000 *ℤ second +ℤ pos microsecond ≡ (pos 1000000 *ℤ local +ℤ pos own) +ℤ amount
    → pos 1000000 *ℤ (second -ℤ offset) +ℤ pos microsecond
    ≡ (pos 1000000 *ℤ (local -ℤ offset) +ℤ pos own) +ℤ amount
moved second local offset amount microsecond own same = omega (arith, ints, same)

unmoved : (second local offset amount : ℤ) (microsecond own : ℕ)
    → pos 1000000 *ℤ (second -ℤ offset) +ℤ pos microsecond
    ≡ (pos 1000000 *ℤ (local -ℤ offset) +ℤ pos own) +ℤ amount
    → (pos 1000000 *ℤ local +ℤ pos own) +ℤ amount ≡ pos 1000000 *ℤ second +ℤ pos microsecond
unmoved second local offset amount microsecond own same = omega (arith, ints, same)

-- a clock that shows an instant so much later lies so much later
pub shown-later : (start value : DateAndTime) (amount : ℤ)
    → IsShownAt start.time.offset (instant_at (local_microsecond start +ℤ amount)) value
    → utc_microsecond value ≡ utc_microsecond start +ℤ amount
shown-later start value amount shown = search (rules, moved, instant_at-microsecond)

-- so the answer to an amount lies so much later
ended : (answer : Result DateAndTime ParseError) (amount : ℤ) (start : DateAndTime)
    → date_time_later amount start ≡ answer
    → IfOk answer (λ end. utc_microsecond end ≡ utc_microsecond start +ℤ amount)
ended answer amount start same = search (rules, shown-later, instant_date_time-shown)

pub date_time_later-ends : (amount : ℤ) (start : DateAndTime)
    → IfOk (date_time_later amount start)
    (λ end. utc_microsecond end ≡ utc_microsecond start +ℤ amount)
date_time_later-ends amount start = ended (date_time_later amount start) amount start refl

-- and a date-time that lies so much later, at the same offset, is the answer
pub date_time_later-exact : (amount : ℤ) (start end : DateAndTime) → IsDateAndTime end
    → end.time.offset ≡ start.time.offset
    → utc_microsecond end ≡ utc_microsecond start +ℤ amount → date_time_later amount start ≡ Ok end
date_time_later-exact amount start end valid attached same =
    let second = local_second end in
    let own = end.time.microsecond in
    let instant : Instant = record { second = second; microsecond = own } in
    let given = unwrap_or start.time.offset (pos 0) in
    let local = λ (one : Option ℤ). second -ℤ unwrap_or one (pos 0) in
    let at_offset = λ (one : Option ℤ). pos 1000000 *ℤ local one +ℤ pos own in
    let later = ap at_offset (sym attached) ∙ same in
    cc (
      unmoved second (local_second start) given amount own start.time.microsecond later,
      instant_at-is (local_microsecond end) instant valid.time.microsecond refl,
      instant_date_time-local end valid,
    )

-- what lies as far apart is in the same order
apart-order : (first second one two : ℤ) → first -ℤ second ≡ one -ℤ two
    → int_cmp first second ≡ int_cmp one two
apart-order first second one two same = search rules

amounts-apart : (first second start amount other one two : ℤ) → first ≡ start +ℤ amount
    → second ≡ start +ℤ other → amount -ℤ other ≡ one -ℤ two
    → first -ℤ second ≡ one -ℤ two
amounts-apart first second start amount other one two here there same = omega (arith, ints)

-- so the ends of two amounts are in the order of the amounts
pub ends-order : (start end : DateAndTime) (amount other one two : ℤ)
    → amount -ℤ other ≡ one -ℤ two → utc_microsecond end ≡ utc_microsecond start +ℤ amount
    → IfOk (date_time_later other start)
    (λ next. int_cmp (utc_microsecond end) (utc_microsecond next) ≡ int_cmp one two)
ends-order start end amount other one two apart same =
    let first = utc_microsecond end in
    let from = utc_microsecond start in
    IfOk-weaker (date_time_later other start) _ _ (λ next is.
    let far = amounts-apart _ _ from amount other one two same is apart in
    apart-order first (utc_microsecond next) one two far)
    (date_time_later-ends other start)

-- after the duration between two date-times comes the instant of the second
pub between-ends : (earlier later : DateAndTime) (amount : ℤ)
    → amount ≡ utc_microsecond later -ℤ utc_microsecond earlier
    → IfOk (date_time_later amount earlier) (λ end. utc_microsecond end ≡ utc_microsecond later)
between-ends earlier later amount same =
    let instant = sym (between-later _ _ amount same) in
    let ends = date_time_later-ends amount earlier in
    IfOk-weaker (date_time_later amount earlier) _ _ (λ end is. is ∙ instant) ends

-- and as much earlier than the end lies the start
pub ends-back : (result : Result DateTime ParseError) (start : DateTime) (amount back : ℤ)
    → IfOk result (λ end. end.time.tz_offset ≡ start.time.tz_offset) → amount ≡ neg_ℤ back
    → IfOk result (λ end. utc_microsecond (date_and_time end)
    ≡ utc_microsecond (date_and_time start) +ℤ amount)
    → IfOk result (λ end. date_time_later back (date_and_time end) ≡ Ok (date_and_time start))
ends-back (Ok end) start amount back attached turned same =
    let value = date_and_time start in
    let valid = is_date_and_time start in
    let earlier = opposite _ _ amount back turned same in
    date_time_later-exact back (date_and_time end) value valid (sym attached) earlier
ends-back (Err fault) start amount back attached turned same = tt

-- there are fewer than 3,652,427 days between two date-times
few-days : (amount : ℤ) → unsigned_abs amount < 315569692800000000
    → (duration_of_amount amount).day ≤ 3652426
few-days amount small = search rules

apart : (one two : ℕ) (second seconds offset other : ℤ) → first_second ≤ℤ second
    → second ≤ℤ last_second → first_second ≤ℤ seconds → seconds ≤ℤ last_second
    → unsigned_abs offset < seconds_per_day → unsigned_abs other < seconds_per_day → one ≤ 999999
    → two ≤ 999999
    → unsigned_abs ((pos 1000000 *ℤ (second -ℤ offset) +ℤ pos one)
    -ℤ (pos 1000000 *ℤ (seconds -ℤ other) +ℤ pos two)) < 315569692800000000
apart one two second seconds offset other late early later earlier near by small little =
    omega (arith, ints)

pub between-days : (earlier later : DateAndTime) → IsDateAndTime earlier → IsDateAndTime later
    → (duration_of_amount (utc_microsecond later -ℤ utc_microsecond earlier)).day ≤ 3652426
between-days earlier later valid other =
    search (rules, few-days, apart, local_second-late, local_second-early, offset-small)

-- the same days the other way lead back
days-back : (positive : Bool) (day start end : ℕ)
    → pos end -ℤ pos start ≡ with_sign (not positive) day
    → pos end +ℤ with_sign (not (not positive)) day ≡ pos start
days-back positive day start end same = search rules

pub date-back : (numbers : DurationNumbers) (start : Date) (end : Ymd)
    → is_whole_days numbers ≡ true
    → days_between (ymd start) end ≡ signed_day numbers
    → date_later (negated numbers) end ≡ Ok (ymd start)
date-back numbers start end whole moved =
    let date = ymd start in
    let first = day_number date in
    let table = (is_whole_days numbers else_fault ParseError.DateNotExact) ∷ [] in
    cc (
      refusal-all fault_alone table _ (whole, tt),
      days-back numbers.positive numbers.day first (day_number end) moved,
      date_numbered-is first date (is_day start) start.year_in_range refl,
    )

-- days the other way are the negative ones
pub turned : (positive : Bool) (day start end : ℕ)
    → pos end -ℤ pos start ≡ with_sign (not (not positive)) day
    → pos start -ℤ pos end ≡ with_sign (not positive) day
turned positive day start end same = search (rules)

-- dates that follow are in the order of what they are counted by
later-order : (one two : Bool) (date other : Option Ymd) (fault next : ParseError)
    (order amounts : Ordering) → order ≡ amounts
    → IfSome date (λ end. IfSome other (λ last. date_order end last ≡ order))
    → IfOk (first_fault_or ((one else_fault ParseError.DateNotExact) ∷ []) (ok_or date fault))
    (λ end. IfOk (first_fault_or ((two else_fault ParseError.DateNotExact) ∷ []) (ok_or other next))
    (λ last. date_order end last ≡ amounts))
later-order one two date other fault next order amounts same is = search rules

-- so the dates after two durations of days are in the order of the days
pub date_later-order : (one two : DurationNumbers) (start : Ymd)
    → IfOk (date_later one start) (λ end. IfOk (date_later two start)
    (λ next. date_order end next ≡ int_cmp (signed_day one) (signed_day two)))
date_later-order one two start =
    let days = pos (day_number start) in
    let first = days +ℤ signed_day one in
    let second = days +ℤ signed_day two in
    let same = apart-order first second (signed_day one) (signed_day two) (omega (arith, ints)) in
    let follow = counted-order first second in
    later-order (is_whole_days one) (is_whole_days two) _ _ _ _ _ _ same follow

-- days the other way lie the other way apart
days-apart : (one two : Bool) (day other : ℕ) (start : ℤ)
    → (start +ℤ with_sign (not (not one)) day) -ℤ (start +ℤ with_sign (not (not two)) other)
    ≡ with_sign (not two) other -ℤ with_sign (not one) day
days-apart true true day other start = omega (arith, ints)
days-apart true false day other start = omega (arith, ints)
days-apart false true day other start = omega (arith, ints)
days-apart false false day other start = omega (arith, ints)

-- and those before them in the other order
pub date_earlier-order : (one two : DurationNumbers) (start : Ymd)
    → IfOk (date_later (negated one) start) (λ end. IfOk (date_later (negated two) start)
    (λ next. date_order end next ≡ int_cmp (signed_day two) (signed_day one)))
date_earlier-order one two start =
    let days = pos (day_number start) in
    let first = days +ℤ signed_day (negated one) in
    let second = days +ℤ signed_day (negated two) in
    let apart_by = days-apart one.positive two.positive one.day two.day days in
    let same = apart-order first second (signed_day two) (signed_day one) apart_by in
    let follow = counted-order first second in
    later-order (is_whole_days one) (is_whole_days two) _ _ _ _ _ _ same follow

-- what holds of the numbers of a date that is returned
pub of-date : (result : Result Date ParseError) (answer : Result Ymd ParseError)
    (P : Ymd → Type 0) → result_map ymd result ≡ answer → IfOk answer P
    → IfOk result (λ date. P (ymd date))
of-date result answer P same is = search rules
