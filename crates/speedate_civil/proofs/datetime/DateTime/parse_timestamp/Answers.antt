use Rattle.std.proofs.Common.{◌∙◌, Ok, ap}
use Rattle.speedate_civil.specs.DateTime.{DateAndTime}
use Rattle.speedate_civil.proofs.datetime.DateTime.parse_timestamp.Goals as goal

pub returns-clause-answer : goal.returns-clause-answer
returns-clause-answer g c =
    ap (λ (value : DateAndTime). Ok value) c.from_instant.ensures.value
    ∙ c.in_ok-time.ensures.answer
