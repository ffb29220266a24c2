-- Laws of the order of dates: it is that of the day numbers, and that of the texts. Each date of
-- the years to 9999 is the date of its day number, and days are counted as the dates are in order.
use Rattle.std.proofs.Common.{◌≡◌, ℕ, ◌+◌, ◌-◌, ◌*◌, ◌/◌, ◌%◌, ◌<◌, ◌≤◌, Bool, if◌then◌else◌, nat_le, ℤ, pos, negsuc, ◌+ℤ◌, ◌-ℤ◌, Option, Some, None, IfSome, int_cmp, List, [], ◌++◌, refl, nat_cmp, Ordering, Equal, rules, arith, ◌∙◌, ap}
use Rattle.std.specs.Cmp.Lexicographic.{slice_cmp}
use Rattle.std.specs.Ordering.{ordering_then}
use Rattle.std.proofs.lemmas.Bool.Decides.{nat_tests}
use Rattle.speedate_base.specs.Digits.{digit}
use Rattle.speedate_civil.specs.Calendar.{Ymd, IsDay, date_counted, date_numbered, date_order}
use Rattle.speedate_civil.specs.Calendar.{day_number}
use Rattle.speedate_civil.specs.Date.{ymd, date_text, Date}
unfoldable use Rattle.speedate_civil.specs.Calendar.{
  days_of_months,
  days_before_year,
  date_of_number,
}
use Rattle.speedate_civil.proofs.DayNumberLemmas.{days_of_months-next, days_of_months-rises}
use Rattle.speedate_civil.proofs.DayNumberLemmas.{days_before_year-next, days_before_year-rises}
use Rattle.speedate_civil.proofs.DayNumberLemmas.{ordinal_day-small, day_number-small}
use Rattle.speedate_civil.proofs.DayNumberLemmas.{date_of_number-IsDay, day_number-date_of_number}

-- an earlier year has smaller day numbers
earlier_year : (first second : Ymd) → IsDay first → IsDay second → first.year < second.year
    → day_number first < day_number second
earlier_year first second one two less =
    omega (
      arith,
      ordinal_day-small first one,
      days_before_year-next first.year,
      days_before_year-rises (first.year + 1) second.year (omega arith),
      one.day.0,
    )

-- and so has an earlier month of a year
earlier_month : (first second : Ymd) → IsDay first → IsDay second → first.year ≡ second.year
    → first.month < second.month → day_number first < day_number second
earlier_month first second one two same less =
    omega (
      arith,
      days_of_months-next first.year first.month one.month.0,
      days_of_months-rises first.year first.month (second.month - 1) (omega arith),
      ap days_before_year same,
      ap (λ (year : ℕ). days_of_months year (second.month - 1)) same,
      one.day.0,
      one.day.1,
    )

-- the order of dates is that of their day numbers
pub date_order-day_number : (first second : Ymd) → IsDay first → IsDay second
    → date_order first second ≡ nat_cmp (day_number first) (day_number second)
date_order-day_number first second one two = grind (arith, nat_tests, earlier_year, earlier_month)

-- dates with the same day number are equal
pub day_number-distinct : (first second : Ymd) → IsDay first → IsDay second
    → day_number first ≡ day_number second → first ≡ second
day_number-distinct first second one two same = grind (arith, earlier_year, earlier_month)

-- the tens and then the units of two numbers are ordered as the numbers
pub digits-order : (first second : ℕ) (next : Ordering)
    → ordering_then (nat_cmp (digit (first / 10)) (digit (second / 10)))
    (ordering_then (nat_cmp (digit (first % 10)) (digit (second % 10))) next)
    ≡ ordering_then (nat_cmp first second) next
digits-order first second next = grind arith

-- and so are the hundreds and what is left
pub hundreds-order : (first second : ℕ) (next : Ordering)
    → ordering_then (nat_cmp (first / 100) (second / 100))
    (ordering_then (nat_cmp (first % 100) (second % 100)) next)
    ≡ ordering_then (nat_cmp first second) next
hundreds-order first second next = grind arith

-- a last order
pub last-order : (order : Ordering) → ordering_then order Equal ≡ order
last-order order = search rules

-- three orders are joined from either end
pub then-then : (one two three : Ordering)
    → ordering_then (ordering_then one two) three ≡ ordering_then one (ordering_then two three)
then-then one two three = search rules

-- two texts that begin with dates are ordered as the dates, and then as what follows
pub date_text-front-order : (first second : Ymd) (one two : List ℕ)
    → slice_cmp nat_cmp (date_text first ++ one) (date_text second ++ two)
    ≡ ordering_then (date_order first second) (slice_cmp nat_cmp one two)
date_text-front-order first second one two = simp (digits-order, hundreds-order, then-then) refl

-- two texts of dates are ordered as the dates
pub date_text-order : (first second : Ymd)
    → slice_cmp nat_cmp (date_text first) (date_text second) ≡ date_order first second
date_text-order first second =
    date_text-front-order first second [] [] ∙ last-order (date_order first second)

-- dates are ordered as the numbers that year, month and day are one after another
fields-order : (first second : Ymd) → first.month < 256 → first.day < 256
    → second.month < 256 → second.day < 256
    → nat_cmp (65536 * first.year + 256 * first.month + first.day)
    (65536 * second.year + 256 * second.month + second.day)
    ≡ date_order first second
fields-order first second one two three four = grind (arith, nat_tests)

-- a day has two digits
day-small : (date : Ymd) → IsDay date → date.day < 256
day-small date valid = grind arith

pub date_order-number : (first second : Ymd) → IsDay first → IsDay second
    → nat_cmp (65536 * first.year + 256 * first.month + first.day)
    (65536 * second.year + 256 * second.month + second.day)
    ≡ date_order first second
date_order-number first second one two = grind (arith, nat_tests, day-small, fields-order)

-- as many steps as its day number counts lead to a date
pub date_of_number-day_number : (date : Ymd) → IsDay date → date_of_number (day_number date) ≡ date
date_of_number-day_number date valid =
    grind (arith, day_number-distinct, date_of_number-IsDay, day_number-date_of_number)

pub date_numbered-is : (number : ℕ) (date : Ymd) → IsDay date → date.year ≤ 9999
    → day_number date ≡ number → date_numbered number ≡ Some date
date_numbered-is number date valid small same =
    grind (arith, day_number-small, date_of_number-day_number)

-- a number of days leads to a day number, so it is the days up to it
pub days-counted : (result : Option Date) (first number : ℕ) (days : ℤ)
    → pos number ≡ pos first +ℤ days
    → IfSome result (λ date. day_number (ymd date) ≡ number)
    → IfSome result (λ date. pos (day_number (ymd date)) -ℤ pos first ≡ days)
days-counted result first number days sum same = search rules

-- a difference is negative, none or positive as the numbers are in order
pub day-difference-order : (first second : ℕ)
    → int_cmp (pos first -ℤ pos second) (pos 0) ≡ nat_cmp first second
day-difference-order first second = search rules

number-order : (first second : ℕ) → nat_cmp first second ≡ int_cmp (pos first) (pos second)
number-order first second = search rules

-- dates that are counted are in the order of their counts
numbered-order : (first second : ℕ) (one two : Bool)
    → IfSome (if one then Some (date_of_number first) else None)
    (λ date. IfSome (if two then Some (date_of_number second) else None)
    (λ other. date_order date other ≡ int_cmp (pos first) (pos second)))
numbered-order first second one two =
    search (
      rules,
      day_number-date_of_number,
      date_order-day_number,
      date_of_number-IsDay,
      number-order,
    )

none-after : (date : Option Ymd) → IfSome date (λ found. Unit {0})
none-after (Some date) = tt
none-after None = tt

pub counted-order : (first second : ℤ)
    → IfSome (date_counted first)
    (λ date. IfSome (date_counted second) (λ other. date_order date other ≡ int_cmp first second))
counted-order (pos first) (pos second) =
    numbered-order first second (nat_le first 3652424) (nat_le second 3652424)
counted-order (pos first) (negsuc second) = none-after (date_numbered first)
counted-order (negsuc first) second = tt
