-- The Gregorian calendar, carried back to the year 0: leap years and months, days counted from
-- 0000-01-01, the order of dates.
use Rattle.std.specs.Prelude.{ℕ, ◌%◌, ◌≤◌, Bool, ◌||◌, ◌==◌, if◌then◌else◌, zero, suc, ◌+◌, ◌-◌, nat_lt, nat_le, Option, Some, None, ℤ, pos, negsuc, ◌+ℤ◌, ◌-ℤ◌, ◌*ℤ◌}
use Rattle.std.specs.Cmp.{IsTotalOrder, nat_cmp_total, on_total, then_total}
use Rattle.std.specs.Int.{IsInRange}
use Rattle.std.specs.Ordering.{nat_cmp, on, then_cmp}
use Rattle.std.specs.declared.cmp.Ordering.{Ordering}
use Rattle.speedate_base.specs.Timestamp.{seconds_per_day}

-- a year divisible by 100 is leap if it is divisible by 400, any other if it is divisible by 4 (RFC
-- 3339, appendix C)
abbrev pub is_leap_year : ℕ → Bool
is_leap_year year = if year % 100 == 0 then year % 400 == 0 else year % 4 == 0

-- the days of February
abbrev pub february_length : ℕ → ℕ
february_length year = if is_leap_year year then 29 else 28

-- the days of a month: April, June, September and November have 30 (RFC 3339 5.7)
abbrev pub month_length : ℕ → ℕ → ℕ
month_length year month =
    if month == 2 then february_length year
    else (if (month == 4) || (month == 6) || (month == 9) || (month == 11) then 30 else 31)

-- a date by its numbers
pub record Ymd : Type 0 where
  pub year : ℕ
  pub month : ℕ
  pub day : ℕ

-- a day of the calendar, in whatever year
pub record IsDay (date : Ymd) : Type 0 where
  pub month : IsInRange 1 12 date.month
  pub day : IsInRange 1 (month_length date.year date.month) date.day

-- a day of the years 0000 to 9999
pub record IsDate (date : Ymd) : Type 0 where
  pub year : date.year ≤ 9999
  pub day : IsDay date

-- Days counted from 0000-01-01, and the day after a day.

-- the days of the first months of a year
unfoldable pub days_of_months : ℕ → ℕ → ℕ
days_of_months year zero = 0
days_of_months year (suc months) = days_of_months year months + month_length year (suc months)

-- the days of a year are those of its twelve months
abbrev pub year_length : ℕ → ℕ
year_length year = days_of_months year 12

-- the days of the years before a year, from the year 0 on
unfoldable pub days_before_year : ℕ → ℕ
days_before_year zero = 0
days_before_year (suc year) = days_before_year year + year_length year

-- the day of the year, 1 for 1 January (ISO 8601, ordinal date)
abbrev pub ordinal_day : Ymd → ℕ
ordinal_day date = days_of_months date.year (date.month - 1) + date.day

-- the days from 0000-01-01 to a date: of the years before its year, of the months before its month,
-- and its day less one
abbrev pub day_number : Ymd → ℕ
day_number date =
    days_before_year date.year + days_of_months date.year (date.month - 1) + (date.day - 1)

-- the day after a day: the next day of the month if there is one, otherwise the first of the next
-- month if there is one, otherwise 1 January of the next year
abbrev pub following_day : Ymd → Ymd
following_day date =
    if nat_lt date.day (month_length date.year date.month)
    then record { year = date.year; month = date.month; day = date.day + 1 }
    else (if nat_lt date.month 12 then record { year = date.year; month = date.month + 1; day = 1 }
    else record { year = date.year + 1; month = 1; day = 1 })

-- the day after a date, up to the year 9999; 9999-12-31 has none
abbrev pub next_date : Ymd → Option Ymd
next_date date = if nat_le (following_day date).year 9999 then Some (following_day date) else None

-- the date a number of days after 0000-01-01, counted one by one
unfoldable pub date_of_number : ℕ → Ymd
date_of_number zero = record { year = 0; month = 1; day = 1 }
date_of_number (suc days) = following_day (date_of_number days)

-- the date of a day number up to 3,652,424, which is that of 9999-12-31
abbrev pub date_numbered : ℕ → Option Ymd
date_numbered number = if nat_le number 3652424 then Some (date_of_number number) else None

-- the date a number of days after 0000-01-01, if it is in the years 0000 to 9999
abbrev pub date_counted : ℤ → Option Ymd
date_counted (pos number) = date_numbered number
date_counted (negsuc before) = None

-- the date a number of days after a date, or before it for a negative number
abbrev pub date_added : ℤ → Ymd → Option Ymd
date_added days date = date_counted (pos (day_number date) +ℤ days)

-- the days from one date to another, negative if the other one is earlier
abbrev pub days_between : Ymd → Ymd → ℤ
days_between earlier later = pos (day_number later) -ℤ pos (day_number earlier)

-- the day number of 1970-01-01 (Unix time)
abbrev pub epoch_day : ℕ
epoch_day = 719528

-- the second of a date's midnight since 1970-01-01T00:00:00 (Unix time)
abbrev pub midnight_second : Ymd → ℤ
midnight_second date = (pos (day_number date) -ℤ pos epoch_day) *ℤ pos seconds_per_day

-- the millisecond of a date's midnight since 1970-01-01T00:00:00 (Unix time)
abbrev pub midnight_millisecond : Ymd → ℤ
midnight_millisecond date = pos 1000 *ℤ midnight_second date

-- the order of dates: by year, then by month, then by day
abbrev pub date_order : Ymd → Ymd → Ordering
date_order =
    then_cmp (on (λ date. date.year) nat_cmp)
    (then_cmp (on (λ date. date.month) nat_cmp) (on (λ date. date.day) nat_cmp))

pub date_order-total : IsTotalOrder date_order
date_order-total =
    then_total (on_total (λ (date : Ymd). date.year) nat_cmp_total)
    (then_total (on_total (λ (date : Ymd). date.month) nat_cmp_total)
    (on_total (λ (date : Ymd). date.day) nat_cmp_total))
