use Rattle.std.proofs.Common.{arith, rules}
use Rattle.speedate_civil.proofs.DayNumberLemmas.{days_before_year-is}
use Rattle.speedate_civil.proofs.DateOrderLemmas.{date_numbered-is}
use Rattle.speedate_civil.proofs.MonthLemmas.{days_of_months_is}
use Rattle.speedate_civil.proofs.ValueLemmas.{is_day}
use Rattle.speedate_civil.proofs.YearLemmas.{days_before_march}
use Rattle.speedate_civil.proofs.date.Date.day_number.Goals as goal

pub returns-clause-number : goal.returns-clause-number
returns-clause-number c =
    grind (arith, days_before_year-is, days_before_march, days_of_months_is)

pub returns-clause-numbered : goal.returns-clause-numbered
returns-clause-numbered c = search (rules, date_numbered-is, is_day, returns-clause-number)
