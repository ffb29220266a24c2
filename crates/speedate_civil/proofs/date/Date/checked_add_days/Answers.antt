use Rattle.std.proofs.Common.{◌≡◌, rules, pos, ◌+ℤ◌}
use Rattle.speedate_civil.specs.Date.{ymd}
use Rattle.speedate_civil.specs.Calendar.{day_number}
use Rattle.speedate_civil.proofs.DateOrderLemmas.{days-counted}
use Rattle.speedate_civil.proofs.date.Date.checked_add_days.Goals as goal

pub returns-clause-counted : goal.returns-clause-counted
returns-clause-counted c =
    let sum : pos c.in_ok-number.number ≡ pos (day_number (ymd c.args.self.now)) +ℤ c.args.days =
    search rules in
    days-counted c.from_day_number.result (day_number (ymd c.args.self.now))
    c.in_ok-number.number c.args.days sum c.from_day_number.ensures.number
