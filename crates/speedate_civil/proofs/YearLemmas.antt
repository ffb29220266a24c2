-- Years that begin in March, so that a 29 February is the last day of its year: their days, counted
-- from 1 March of the year -400 on, and the dates of these.
use Rattle.std.proofs.Common.{◌≡◌, ℕ, ◌+◌, ◌-◌, ◌*◌, ◌/◌, ◌≤◌, IsTrue, arith}
use Rattle.std.proofs.lemmas.Bool.Decides.{nat_tests}
use Rattle.speedate_civil.specs.Calendar.{days_before_year, day_number, is_leap_year}
use Rattle.speedate_civil.proofs.DayNumberLemmas.{days_before_year-is, february_length-is, leap_day}
use Rattle.speedate_civil.proofs.DayNumberLemmas.{leap_day-counts, year_length-is}
use Rattle.speedate_civil.proofs.MonthLemmas.{IsOrdinal, day_in_month, long_month, ordinal-at}

-- the days before a year, by years of March
pub days_before_march : (year : ℕ)
    → days_before_year year + leap_day year + 146096 + (year + 400) / 100
    ≡ 365 * (year + 400) + (year + 400) / 4 + (year + 400) / 400
days_before_march year = omega (arith, days_before_year-is year, leap_day-counts year)

-- that a date has the number of a day of a year of March; the date is given by its year and by its
-- day of the year as if February had 30 days
abbrev pub HasNumber : ℕ → ℕ → ℕ → ℕ → Type 0
HasNumber years day year days =
    day_number (record { year = year; month = long_month days; day = day_in_month days })
    + 146037 + years / 100 ≡ 365 * years + years / 4 + years / 400 + day

-- from March to December
march_day-late : (years day : ℕ) → 400 ≤ years → day ≤ 305
    → HasNumber years day (years - 400) (day + 61)
march_day-late years day first late =
    let year : ℕ = years - 400 in
    let february = february_length-is year in
    let length = year_length-is year in
    let ordinal : IsOrdinal year (day + 59 + leap_day year) (long_month (day + 61))
    (day_in_month (day + 61)) =
    ordinal-at year (day + 59 + leap_day year) (day + 61) (omega arith)
    (grind (arith, nat_tests)) in
    omega (arith, days_before_march year, ordinal.ordinal, ordinal.day_in_range.0)

-- in January and February, of the next year
march_day-early : (years day : ℕ) → 399 ≤ years → 306 ≤ day → day ≤ 365
    → (day ≡ 365 → IsTrue (is_leap_year (years - 399)))
    → HasNumber years day (years - 399) (day - 306)
march_day-early years day first early within full =
    let year : ℕ = years - 399 in
    let length = year_length-is year in
    let ordinal : IsOrdinal year (day - 306) (long_month (day - 306)) (day_in_month (day - 306)) =
    ordinal-at year (day - 306) (day - 306) (omega arith) (grind (arith, nat_tests)) in
    omega (arith, days_before_year-is year, ordinal.ordinal, ordinal.day_in_range.0)

-- the same of a year and a day that are known otherwise
pub march_number-late : (years day year days : ℕ) → 400 ≤ years → day ≤ 305
    → year ≡ years - 400 → days ≡ day + 61 → HasNumber years day year days
march_number-late years day year days first late same_year same_days =
    rw same_year (rw same_days (march_day-late years day first late))

pub march_number-early : (years day year days : ℕ) → 399 ≤ years → 306 ≤ day → day ≤ 365
    → (day ≡ 365 → IsTrue (is_leap_year (years - 399)))
    → year ≡ years - 399 → days ≡ day - 306 → HasNumber years day year days
march_number-early years day year days first early within full same_year same_days =
    rw same_year (rw same_days (march_day-early years day first early within full))
