use Rattle.std.proofs.Common.{◌≡◌, ◌∙◌, ap, ◌<◌, arith, rules}
use Rattle.std.proofs.lemmas.Int.{to_z-of_z}
use mir.Syntax.{w64}
use mir.Val.{SFits}
use Rattle.speedate_base.specs.Timestamp.{decimal_microsecond, instant_at, range_answer, unix_row}
use Rattle.speedate_base.specs.Numbers.{decimal_value}
use Rattle.speedate_base.proofs.NearestLemmas.{scale-some}
use Rattle.speedate_base.proofs.DecimalLemmas.{near, decimal-far, decimal_microsecond-sum}
use Rattle.speedate_base.proofs.util.decimal_timestamp.decimal_to_seconds_micros.Goals as goal

pub returns-then-decimal-clause-answer : goal.returns-then-decimal-clause-answer
returns-then-decimal-clause-answer c =
    grind (arith, decimal-far (unix_row c.args.unit) (decimal_value c.args.decimal))

pub returns-else-decimal-clause-answer : goal.returns-else-decimal-clause-answer
returns-else-decimal-clause-answer c =
    grind (arith, decimal-far (unix_row c.args.unit) (decimal_value c.args.decimal))

pub returns-clause-answer : goal.returns-clause-answer
returns-clause-answer c =
    let fits : SFits w64 c.with_sign.result = search rules in
    let some : 0 < c.args.unit.microseconds =
    omega (arith, c.args.unit.whole, scale-some c.args.unit.digits) in
    let sum = decimal_microsecond-sum (unix_row c.args.unit) (decimal_value c.args.decimal)
    _ c.fraction_microseconds.ensures.nearest in
    let signed : c.with_sign.result
    ≡ decimal_microsecond (unix_row c.args.unit) (decimal_value c.args.decimal) =
    grind (arith, some, sum, near) in
    let time = (simp to_z-of_z at c.from_microseconds.ensures) ∙ ap instant_at signed in
    c.in_years.ensures.answer ∙ ap range_answer time
