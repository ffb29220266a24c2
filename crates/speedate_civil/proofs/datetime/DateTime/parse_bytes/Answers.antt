use Rattle.std.proofs.Common.{◌∙◌, ap}
use Rattle.speedate_base.specs.Config.{Choices}
use Rattle.speedate_base.specs.Refused.{without_place}
use Rattle.speedate_civil.specs.Base.{TimestampUnit}
use Rattle.speedate_civil.specs.DateTime.{date_time_or_timestamp}
use Rattle.speedate_civil.proofs.datetime.DateTime.parse_bytes.Goals as goal

pub returns-clause-answer : goal.returns-clause-answer
returns-clause-answer c =
    let text = c.args.bytes.now in
    let time = c.default.result.time_config in
    let behavior = time.microseconds_precision_overflow_behavior in
    let offset = time.unix_timestamp_offset in
    c.parse_bytes_with_config.ensures.answer
    ∙ ap (λ (unit : TimestampUnit).
    without_place (date_time_or_timestamp unit behavior offset text))
    c.default.ensures.0
    ∙ ap (λ (chosen : Choices). without_place (date_time_or_timestamp TimestampUnit.Infer
    chosen.behavior chosen.offset text))
    c.default.ensures.1
