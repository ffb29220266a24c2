-- The month of a day of the year, and the days before a month, by a line through the months of a
-- year whose February has 30 days.
use Rattle.std.proofs.Common.{rules}
use Rattle.std.proofs.Common.{◌≡◌, ℕ, ◌+◌, ◌-◌, ◌*◌, ◌/◌, ◌%◌, ◌<◌, ◌==◌, if◌then◌else◌, nat_lt, refl, arith, below_none, below_more}
use Rattle.std.specs.Int.{IsInRange}
use Rattle.speedate_civil.specs.Calendar.{february_length, month_length, year_length}
unfoldable use Rattle.speedate_civil.specs.Calendar.{days_of_months}
use Rattle.speedate_civil.proofs.DayNumberLemmas.{leap_day, leap_day-small, february_length-is}
use Rattle.speedate_civil.proofs.DayNumberLemmas.{year_length-is}
use Rattle.speedate_civil.proofs.ReadLemmas.{if_cases}

-- the days before a month, where a February of 30 days is taken for the year's
abbrev pub long_days : ℕ → ℕ
long_days month = (367 * month - 362) / 12

-- by which the months from March on come too late
abbrev pub missing : ℕ → ℕ → ℕ
missing year month = if nat_lt month 3 then 0 else 2 - leap_day year

-- what is known of a month
abbrev pub MonthIs : ℕ → ℕ → Type 0
MonthIs year months =
    (days_of_months year months + missing year (months + 1) ≡ long_days (months + 1))
    × (long_days (months + 1) + (if months == 1 then 30 else month_length year (months + 1))
    ≡ long_days (months + 1 + 1))

pub month_is : (year months : ℕ) → months < 12 → MonthIs year months
unfolding days_of_months
month_is year =
    let february = february_length-is year in
    let small = leap_day-small year in
    below_more (MonthIs year) 11 (below_more (MonthIs year) 10
    (below_more (MonthIs year) 9 (below_more (MonthIs year) 8
    (below_more (MonthIs year) 7 (below_more (MonthIs year) 6
    (below_more (MonthIs year) 5 (below_more (MonthIs year) 4
    (below_more (MonthIs year) 3 (below_more (MonthIs year) 2
    (below_more (MonthIs year) 1 (below_more (MonthIs year) 0 (below_none (MonthIs year))
    (omega arith, refl)) (omega arith, refl)) (omega arith, refl)) (omega arith, refl))
    (omega arith, refl)) (omega arith, refl))
    (omega arith, refl)) (omega arith, refl)) (omega arith, refl)) (omega arith, refl))
    (omega arith, refl)) (omega arith, refl)

-- the days before a month
pub days_of_months_is : (year month : ℕ) → IsInRange 1 12 month
    → days_of_months year (month - 1) + missing year month ≡ long_days month
days_of_months_is year month valid = grind (arith, month_is)

-- a day of the year, counted from 0, as if February had 30 days
abbrev pub long_day : ℕ → ℕ → ℕ
long_day year day =
    if nat_lt day (31 + february_length year) then day else day + 30 - february_length year

-- its month
abbrev pub long_month : ℕ → ℕ
long_month day = (12 * day + 373) / 367

-- and its day of that month
abbrev pub day_in_month : ℕ → ℕ
day_in_month day = (12 * day + 373) % 367 / 12 + 1

-- what is known of it
pub record IsOrdinal (year day month day_of_month : ℕ) : Type 0 where
  pub month_in_range : IsInRange 1 12 month
  pub day_in_range : IsInRange 1 (month_length year month) day_of_month
  pub ordinal : days_of_months year (month - 1) + day_of_month ≡ day + 1

-- in January and February the line through the months has what the months have
ordinal-early : (year day : ℕ) → day < 31 + february_length year
    → IsOrdinal year day (long_month day) (day_in_month day)
ordinal-early year day early = grind (arith, days_of_months_is)

-- from March on it lags by what February lacks
late-month : (year month : ℕ) → IsInRange 3 12 month
    → (days_of_months year (month - 1) + 2 ≡ long_days month + leap_day year)
    × (long_days month + month_length year month ≡ long_days (month + 1))
late-month year month valid = grind (arith, month_is)

ordinal-late : (year day days : ℕ) → days + february_length year ≡ day + 30 → IsInRange 61 366 days
    → IsOrdinal year day (long_month days) (day_in_month days)
ordinal-late year day days moved valid = grind (arith, late-month)

pub ordinal-at : (year day days : ℕ) → day < year_length year → days ≡ long_day year day
    → IsOrdinal year day (long_month days) (day_in_month days)
ordinal-at year day days few is =
    search (
      rules,
      leap_day-small,
      february_length-is,
      year_length-is,
      if_cases,
      ordinal-early,
      ordinal-late,
      days_of_months_is,
      late-month,
    )
