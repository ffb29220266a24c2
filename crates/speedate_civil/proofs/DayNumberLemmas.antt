-- Laws of day numbers: how long years and months are, and that each day has one number more than
-- the day before.
use Rattle.std.proofs.Common.{◌≡◌, ℕ, zero, suc, ◌+◌, ◌-◌, ◌*◌, ◌/◌, ◌≤◌, if◌then◌else◌, refl, rules, arith, subst, add-one, add-zero, add-suc}
use Rattle.std.proofs.lemmas.Bool.Decides.{nat_tests}
use Rattle.speedate_civil.specs.Calendar.{Ymd, is_leap_year, february_length, month_length, IsDay}
use Rattle.speedate_civil.specs.Calendar.{year_length, ordinal_day, day_number, following_day}
unfoldable use Rattle.speedate_civil.specs.Calendar.{
  days_of_months,
  days_before_year,
  date_of_number,
}

-- the 29 February of a year, counted
abbrev pub leap_day : ℕ → ℕ
leap_day year = if is_leap_year year then 1 else 0

pub leap_day-small : (year : ℕ) → leap_day year ≤ 1
leap_day-small year = grind arith

pub february_length-is : (year : ℕ) → february_length year ≡ 28 + leap_day year
february_length-is year = search rules

days_of_months-none : (year : ℕ) → days_of_months year 0 ≡ 0
unfolding days_of_months
days_of_months-none year = refl

-- one month more
pub days_of_months-next : (year month : ℕ) → 1 ≤ month
    → days_of_months year month ≡ days_of_months year (month - 1) + month_length year month
unfolding days_of_months
days_of_months-next year month low = search rules

-- the days of a year, counted
pub year_length-is : (year : ℕ) → year_length year ≡ 365 + leap_day year
unfolding days_of_months
year_length-is year = let february = february_length-is year in omega arith

-- how many leap years there are
pub leap_day-counts : (year : ℕ)
    → leap_day year + (year + 399) / 4 + (year + 400) / 100 + (year + 399) / 400
    ≡ (year + 400) / 4 + (year + 399) / 100 + (year + 400) / 400
leap_day-counts year = grind arith

-- the days before a year, by the 399 years that go before the year 0, so that a leap year ends each
-- four
pub days_before_year-is : (year : ℕ)
    → days_before_year year + 145731 + (year + 399) / 100
    ≡ 365 * (year + 399) + (year + 399) / 4 + (year + 399) / 400
unfolding days_before_year
days_before_year-is zero = refl
days_before_year-is (suc year) =
    omega (arith, days_before_year-is year, leap_day-counts year, year_length-is year)

pub days_before_year-next : (year : ℕ)
    → days_before_year (year + 1) ≡ days_before_year year + year_length year
unfolding days_before_year
days_before_year-next year = rw add-one refl

-- a sum of lengths grows with what it sums
rises-by : (sum : ℕ → ℕ) → ((n : ℕ) → sum n ≤ sum (suc n)) → (from more : ℕ)
    → sum from ≤ sum (from + more)
rises-by sum step from zero = rw add-zero (omega arith)
rises-by sum step from (suc more) =
    rw add-suc (omega (arith, step (from + more), rises-by sum step from more))

rises : (sum : ℕ → ℕ) → ((n : ℕ) → sum n ≤ sum (suc n)) → (from to : ℕ) → from ≤ to
    → sum from ≤ sum to
rises sum step from to low =
    let same : from + (to - from) ≡ to = omega arith in
    subst (λ (n : ℕ). sum from ≤ sum n) same (rises-by sum step from (to - from))

pub days_of_months-rises : (year from to : ℕ) → from ≤ to
    → days_of_months year from ≤ days_of_months year to
unfolding days_of_months
days_of_months-rises year = rises (days_of_months year) (λ months. omega arith)

pub days_before_year-rises : (from to : ℕ) → from ≤ to → days_before_year from ≤ days_before_year to
unfolding days_before_year
days_before_year-rises = rises days_before_year (λ year. omega arith)

-- a day lies in its year
pub ordinal_day-small : (date : Ymd) → IsDay date → ordinal_day date ≤ year_length date.year
ordinal_day-small date valid = grind (arith, days_of_months-next)

-- the years to 9999 have 3,652,425 days
pub day_number-small : (date : Ymd) → IsDay date → date.year ≤ 9999 → day_number date ≤ 3652424
day_number-small date valid small =
    grind (arith, nat_tests, leap_day-small, year_length-is, days_before_year-is, ordinal_day-small)

-- the day after a day is a day
pub following_day-IsDay : (date : Ymd) → IsDay date → IsDay (following_day date)
following_day-IsDay date valid = search rules

-- whose number is one more: at the end of a month
pub day_number-next_month : (date : Ymd) → IsDay date → month_length date.year date.month ≤ date.day
    → day_number (record { year = date.year; month = date.month + 1; day = 1 })
    ≡ day_number date + 1
day_number-next_month date valid last = grind (arith, days_of_months-next)

-- at the end of a year
pub day_number-next_year : (date : Ymd) → IsDay date → month_length date.year date.month ≤ date.day
    → 12 ≤ date.month
    → day_number (record { year = date.year + 1; month = 1; day = 1 }) ≡ day_number date + 1
day_number-next_year date valid last end =
    grind (arith, days_of_months-none, days_of_months-next, days_before_year-next)

-- and anywhere
pub day_number-following_day : (date : Ymd) → IsDay date
    → day_number (following_day date) ≡ day_number date + 1
day_number-following_day date valid =
    grind (
      arith,
      nat_tests,
      day_number-next_month,
      days_of_months-none,
      days_of_months-next,
      days_before_year-next,
    )

-- the steps from 0000-01-01 lead to days
pub date_of_number-IsDay : (days : ℕ) → IsDay (date_of_number days)
unfolding date_of_number
date_of_number-IsDay zero =
    record { month = (omega arith, omega arith); day = (omega arith, omega arith) }
date_of_number-IsDay (suc days) =
    following_day-IsDay (date_of_number days) (date_of_number-IsDay days)

-- and are counted by the day numbers
pub day_number-date_of_number : (days : ℕ) → day_number (date_of_number days) ≡ days
unfolding date_of_number days_before_year days_of_months
day_number-date_of_number zero = refl
day_number-date_of_number (suc days) =
    omega (
      arith,
      day_number-following_day (date_of_number days) (date_of_number-IsDay days),
      day_number-date_of_number days,
    )
