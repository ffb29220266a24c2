-- The numbers of a duration, its amount, and the numbers that have an amount.
use Rattle.std.specs.Prelude.{ℕ, ◌+◌, ◌*◌, ◌/◌, ◌%◌, ◌<◌, ◌≤◌, Bool, true, false, not, ◌&&◌, ◌≡◌, refl, nat_eq, nat_le, List, [], ◌∷◌, ℤ, Result, Ok}
use Rattle.std.proofs.Common.{arith}
use Rattle.std.proofs.lemmas.Bool.Decides.{nat_tests}
use Rattle.std.proofs.lemmas.Int.{ints}
use Rattle.std.specs.Cmp.{IsTotalOrder, bool_cmp_total, both_tied, int_cmp_total, on_total, then_total}
use Rattle.std.specs.Ordering.{bool_cmp, int_cmp, is_eq, on, then_cmp}
use Rattle.std.proofs.Math.Bool.{beq}
use Rattle.std.specs.declared.cmp.Ordering.{Ordering}
use Rattle.speedate_civil.specs.Base.{ParseError}
pub use Rattle.speedate.specs.declared.duration.unsigned.UnsignedDuration.{UnsignedDuration}
use Rattle.speedate_base.specs.Numbers.{with_sign}
use Rattle.speedate_base.specs.Timestamp.{seconds_per_day}
use Rattle.speedate_base.specs.Requirement.{NumberRow, Requirement, ◌at_place◌, ◌else_fault◌}
use Rattle.speedate_base.specs.Requirement.{first_fault_or}

-- a duration by its sign, its days, the seconds of a day and the microseconds of a second
pub record DurationNumbers : Type 0 where
  pub positive : Bool
  pub day : ℕ
  pub second : ℕ
  pub microsecond : ℕ

-- the numbers of a duration are in their ranges
pub record IsDuration (numbers : DurationNumbers) : Type 0 where
  pub day : numbers.day ≤ 999999999
  pub second : numbers.second < seconds_per_day
  pub microsecond : numbers.microsecond ≤ 999999

-- the amount of a duration in seconds, and in microseconds, without its sign
abbrev pub amount_seconds : DurationNumbers → ℕ
amount_seconds numbers = numbers.day * seconds_per_day + numbers.second

abbrev pub amount_microseconds : DurationNumbers → ℕ
amount_microseconds numbers = amount_seconds numbers * 1000000 + numbers.microsecond

-- the numbers of a duration of so many microseconds: seconds and microseconds in their ranges, and
-- days of any size
abbrev pub of_amount : Bool → ℕ → DurationNumbers
of_amount positive amount = record {
  positive = positive;
  day = amount / 1000000 / seconds_per_day;
  second = amount / 1000000 % seconds_per_day;
  microsecond = amount % 1000000;
}

-- the seconds of a duration with the whole seconds of its microseconds, and its days with the whole
-- days of all these seconds
abbrev pub carried_second : DurationNumbers → ℕ
carried_second numbers = numbers.second + numbers.microsecond / 1000000

abbrev pub carried_day : DurationNumbers → ℕ
carried_day numbers = numbers.day + carried_second numbers / seconds_per_day

-- the seconds, or the days, with what is carried into them are at most a number
abbrev pub has_seconds_up_to : ℕ → DurationNumbers → Bool
has_seconds_up_to largest numbers = nat_le (carried_second numbers) largest

abbrev pub has_days_up_to : ℕ → DurationNumbers → Bool
has_days_up_to largest numbers = nat_le (carried_day numbers) largest

-- what the numbers of a duration, of any size, have to meet to be brought into their ranges: the
-- sums are counted in 32 bits, and then the days are at most 999,999,999. The place of a row is
-- that of its test
abbrev pub normal_rows : {Place : Type 0} → ((DurationNumbers → Bool) → Place) → DurationNumbers
    → List (Requirement Place)
normal_rows place numbers =
    (has_seconds_up_to 4294967295 numbers else_fault ParseError.DurationValueTooLarge
    at_place place (has_seconds_up_to 4294967295))
    ∷ (has_days_up_to 4294967295 numbers else_fault ParseError.DurationValueTooLarge
    at_place place (has_days_up_to 4294967295))
    ∷ (has_days_up_to 999999999 numbers else_fault ParseError.DurationDaysTooLarge
    at_place place (has_days_up_to 999999999))
    ∷ []

-- the same of numbers, which have no place
abbrev pub normal_table : DurationNumbers → List NumberRow
normal_table numbers = normal_rows (λ test. tt) numbers

-- the normal form of a duration: the numbers in their ranges that have the same amount, or the
-- fault
abbrev pub normal_form : DurationNumbers → Result DurationNumbers ParseError
normal_form numbers =
    first_fault_or (normal_table numbers)
    (Ok (of_amount numbers.positive (amount_microseconds numbers)))

-- the normal form of a duration that is given by its sign and its numbers without it
abbrev pub signed_form : Bool → UnsignedDuration → Result DurationNumbers ParseError
signed_form positive amount =
    normal_form (record {
      positive = positive;
      day = amount.day;
      second = amount.second;
      microsecond = amount.microsecond;
    })

-- the amount of a duration in whole seconds, with its sign
abbrev pub signed_seconds : DurationNumbers → ℤ
signed_seconds numbers = with_sign (not numbers.positive) (amount_seconds numbers)

-- the amount of a duration in milliseconds, with its sign, cut toward zero
abbrev pub signed_milliseconds : DurationNumbers → ℤ
signed_milliseconds numbers =
    with_sign (not numbers.positive) (1000 * amount_seconds numbers + numbers.microsecond / 1000)

-- the microseconds of a second in a duration, with its sign
abbrev pub signed_microsecond : DurationNumbers → ℤ
signed_microsecond numbers = with_sign (not numbers.positive) numbers.microsecond

-- the days of a duration, and its seconds of a day, with its sign
abbrev pub signed_day : DurationNumbers → ℤ
signed_day numbers = with_sign (not numbers.positive) numbers.day

abbrev pub signed_second : DurationNumbers → ℤ
signed_second numbers = with_sign (not numbers.positive) numbers.second

-- the order of durations: negative before positive, then by the days, the seconds and the
-- microseconds with the sign; so negative zero comes before positive zero
abbrev pub duration_order : DurationNumbers → DurationNumbers → Ordering
duration_order =
    then_cmp (on (λ numbers. numbers.positive) bool_cmp)
    (then_cmp (on signed_day int_cmp)
    (then_cmp (on signed_second int_cmp) (on signed_microsecond int_cmp)))

-- durations are ordered one after another
pub duration_order-total : IsTotalOrder duration_order
duration_order-total =
    then_total (on_total (λ (numbers : DurationNumbers). numbers.positive) bool_cmp_total)
    (then_total (on_total signed_day int_cmp_total)
    (then_total (on_total signed_second int_cmp_total)
    (on_total signed_microsecond int_cmp_total)))

tied : (negative : Bool) (a b : ℕ)
    → nat_eq a b ≡ is_eq (int_cmp (with_sign negative a) (with_sign negative b))
tied negative a b = grind (arith, ints, nat_tests)

same : (p q : Bool) (d e s t u v : ℕ) → (beq p q && (nat_eq d e && (nat_eq s t && nat_eq u v)))
    ≡ is_eq (duration_order (record { positive = p; day = d; second = s; microsecond = u })
    (record { positive = q; day = e; second = t; microsecond = v }))
same true false d e s t u v = refl
same false true d e s t u v = refl
same true true d e s t u v =
    both_tied _ _ _ _ (tied false d e) (both_tied _ _ _ _ (tied false s t) (tied false u v))
same false false d e s t u v =
    both_tied _ _ _ _ (tied true d e) (both_tied _ _ _ _ (tied true s t) (tied true u v))

-- durations are equal in `duration_order` if and only if their numbers are
pub duration_order-same : (first second : DurationNumbers)
    → (beq first.positive second.positive
    && (nat_eq first.day second.day
    && (nat_eq first.second second.second && nat_eq first.microsecond second.microsecond)))
    ≡ is_eq (duration_order first second)
duration_order-same first second =
    same first.positive second.positive first.day second.day first.second second.second
    first.microsecond second.microsecond
