use Rattle.std.proofs.Common.{◌∙◌, ap}
use Rattle.speedate_base.specs.Timestamp.{decimal_instant, UnitRow}
use Rattle.speedate_civil.specs.DateTime.{instant_date_time, date_and_time}
use Rattle.speedate_base.specs.Numbers.{decimal_value}
use Rattle.speedate_civil.proofs.DateTimeInstantLemmas.{date_time_decimal-nearest}
use Rattle.speedate_civil.proofs.ReadLemmas.{read-result}
use Rattle.speedate_civil.proofs.datetime.DateTime.from_decimal_with_config.Goals as goal

pub returns-clause-nearest : goal.returns-clause-nearest
returns-clause-nearest c =
    let config = c.args.config.now in
    let decimal = decimal_value c.args.decimal in
    let offset = config.time_config.unix_timestamp_offset in
    let answer =
    c.at_decimal.ensures.answer ∙ ap (λ (row : UnitRow). instant_date_time offset
    (decimal_instant row decimal)) c.decimal_unit-unit.ensures.row in
    read-result date_and_time _ c.at_decimal.result _ answer
    (date_time_decimal-nearest config.timestamp_unit offset decimal)
