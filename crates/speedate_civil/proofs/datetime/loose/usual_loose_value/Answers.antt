use Rattle.std.proofs.Common.{sym}
use Rattle.speedate_base.specs.Requirement.{with_size}
use Rattle.speedate_civil.specs.DateTime.{date_and_time}
use Rattle.speedate_civil.proofs.LooseLemmas.{text_is_loose}
use Rattle.speedate_civil.proofs.datetime.loose.usual_loose_value.Goals as goal

pub returns-in-Some-with_late_zone-clause-front : goal.returns-in-Some-with_late_zone-clause-front
returns-in-Some-with_late_zone-clause-front c behavior =
    text_is_loose behavior c.args.text.now (date_and_time c.in-Some.value, c.in-Some.size)
    (with_size date_and_time c.in-Some-with_late_zone.front) (c.in-Some.ensures.front behavior)
    (sym c.in-Some-with_late_zone.ensures.front)
