use Rattle.std.proofs.Common.{arith}
use Rattle.speedate_civil.specs.Date.{ymd}
use Rattle.speedate_civil.proofs.DayNumberLemmas.{day_number-next_month, day_number-next_year}
use Rattle.speedate_civil.proofs.ValueLemmas.{is_day}
use Rattle.speedate_civil.proofs.date.Date.next_day.Goals as goal

pub returns-then-self-lt12-clause-number : goal.returns-then-self-lt12-clause-number
returns-then-self-lt12-clause-number c =
    let date = c.args.self.now in
    day_number-next_month (ymd date) (is_day date) (omega (arith, c.month_length.ensures.length))

pub returns-then-self-lt9999-clause-number : goal.returns-then-self-lt9999-clause-number
returns-then-self-lt9999-clause-number c =
    let date = c.args.self.now in
    day_number-next_year (ymd date) (is_day date) (omega (arith, c.month_length.ensures.length))
    c.if-self-lt12.false
