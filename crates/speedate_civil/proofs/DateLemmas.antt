-- The text by which a date is printed is read as the date, whatever follows it.
use Rattle.std.proofs.Common.{◌≡◌, ℕ, List, ◌++◌, ◌≤◌, true, Ok, rules, arith, sym, subst, le-leb}
use Rattle.std.specs.Int.{is_in_range, IsInRange}
use Rattle.speedate_base.proofs.DigitLemmas.{two_digits-printed, four_digits-printed}
use Rattle.speedate_civil.specs.Calendar.{Ymd, IsDate, month_length}
use Rattle.speedate_civil.specs.Date.{date_text, date_front, date_answer, date_numbers}

-- no month is longer than 31 days
pub month_length-small : (year month : ℕ) → month_length year month ≤ 31
month_length-small year month = grind arith

pub is_in_range-true : (low high n : ℕ) → IsInRange low high n → is_in_range low high n ≡ true
is_in_range-true low high n within = grind arith

-- the numbers of a printed date stand at their places
date_numbers-printed : (date : Ymd) (tail : List ℕ) → date_numbers (date_text date ++ tail) ≡ date
date_numbers-printed date tail = search rules

-- the text by which a date is printed, at the front of another, is read as that date
pub date_text-front : (date : Ymd) (tail : List ℕ) → IsDate date
    → date_front (date_text date ++ tail) ≡ Ok (date, 10)
date_text-front date tail valid =
    let text = date_text date ++ tail in
    let numbers = date_numbers-printed date tail in
    let months =
    subst (λ (read : Ymd). is_in_range 1 12 read.month ≡ true) (sym numbers)
    (is_in_range-true 1 12 date.month valid.day.month) in
    let days = subst (λ (read : Ymd). is_in_range 1 (month_length read.year read.month) read.day
    ≡ true) (sym numbers)
    (is_in_range-true 1 (month_length date.year date.month) date.day valid.day.day) in
    search (rules, four_digits-printed, two_digits-printed, month_length-small, le-leb)

-- and alone it is that date
pub date_text-reads : (date : Ymd) → IsDate date → date_answer (date_text date) ≡ Ok date
date_text-reads date valid = search (rules, date_text-front)
