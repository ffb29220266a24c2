use Rattle.std.proofs.Common.{rules, ◌≡◌, ◌∙◌, ap, sym}
use Rattle.speedate_civil.specs.Date.{ymd}
unfoldable use Rattle.speedate_civil.specs.Calendar.{date_of_number}
use Rattle.speedate_civil.specs.Calendar.{day_number}
use Rattle.speedate_civil.proofs.DateOrderLemmas.{date_of_number-day_number}
use Rattle.speedate_civil.proofs.ValueLemmas.{is_day}
use Rattle.speedate_civil.proofs.date.Date.from_number.Goals as goal

number-is : (c : goal.After-day_of_year) → day_number (ymd c.day_of_year.result) ≡ c.args.number
number-is c = search rules

pub returns-clause-date : goal.returns-clause-date
returns-clause-date c =
    let date = c.day_of_year.result in
    sym (ap date_of_number (sym (number-is c)) ∙ date_of_number-day_number (ymd date) (is_day date))

pub returns-clause-number : goal.returns-clause-number
returns-clause-number c = number-is c
