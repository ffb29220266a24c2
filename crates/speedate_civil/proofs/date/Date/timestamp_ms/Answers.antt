use Rattle.std.proofs.Common.{arith}
use Rattle.std.proofs.lemmas.Int.{ints}
use Rattle.speedate_civil.specs.Date.{ymd}
use Rattle.speedate_civil.proofs.DayNumberLemmas.{day_number-small}
use Rattle.speedate_civil.proofs.ValueLemmas.{is_day}
use Rattle.speedate_civil.proofs.date.Date.timestamp_ms.Goals as goal

pub overflow_mul-result : goal.overflow_mul-result
overflow_mul-result c =
    let date = c.args.self.now in
    omega (
      arith,
      ints,
      c.timestamp.ensures.second,
      day_number-small (ymd date) (is_day date) date.year_in_range,
    )

pub returns : goal.returns
returns c =
    let date = c.args.self.now in
    record {
      millisecond = omega (
        arith,
        ints,
        c.timestamp.ensures.second,
        day_number-small (ymd date) (is_day date) date.year_in_range,
      );
    }
