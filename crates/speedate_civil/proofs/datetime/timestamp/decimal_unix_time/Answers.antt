use Rattle.std.proofs.Common.{◌∙◌, Err, ap, rules}
use Rattle.speedate_base.specs.Numbers.{decimal_value}
use Rattle.speedate_base.specs.Timestamp.{UnitRow, decimal_instant, decimal_row, range_answer}
use Rattle.speedate_civil.proofs.DateTimeTimestampLemmas.{decimal-refused}
use Rattle.speedate_civil.proofs.datetime.timestamp.decimal_unix_time.Goals as goal

pub returns-in-Err-clause-answer : goal.returns-in-Err-clause-answer
returns-in-Err-clause-answer g c =
    let decimal = decimal_value c.args.decimal in
    ap Err c.refuse_at-in-Err.ensures.refusal
    ∙ decimal-refused g.E.Refusal.refusal (decimal_row c.args.unit decimal) c.args.behavior
    c.args.bytes.now decimal _
    (search rules)
    (c.in-Err.ensures.answer
    ∙ ap (λ (row : UnitRow). range_answer (decimal_instant row decimal))
    c.decimal_unit-unit.ensures.row)
