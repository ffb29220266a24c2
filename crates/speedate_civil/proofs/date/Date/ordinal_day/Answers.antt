use Rattle.std.proofs.Common.{arith}
use Rattle.speedate_civil.specs.Date.{ymd}
use Rattle.speedate_civil.proofs.DayNumberLemmas.{ordinal_day-small, year_length-is, leap_day-small}
use Rattle.speedate_civil.proofs.ValueLemmas.{is_day}
use Rattle.speedate_civil.proofs.date.Date.ordinal_day.Goals as goal

pub overflow_add-result : goal.overflow_add-result
overflow_add-result c =
    let date = c.args.self.now in
    omega (
      arith,
      ordinal_day-small (ymd date) (is_day date),
      year_length-is date.year,
      leap_day-small date.year,
    )
