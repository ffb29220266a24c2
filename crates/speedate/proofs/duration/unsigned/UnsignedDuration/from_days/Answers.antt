use Rattle.std.proofs.Common.{ap, sym}
use Rattle.speedate_base.specs.Refused.{seen_as}
use Rattle.speedate_base.specs.Requirement.{shifted}
use Rattle.speedate.proofs.DayFormLemmas.{whole_days}
use Rattle.speedate.proofs.duration.unsigned.UnsignedDuration.from_days.Goals as goal

pub returns-in-Some-clause-answer : goal.returns-in-Some-clause-answer
returns-in-Some-clause-answer g c =
    sym (ap (seen_as (shifted c.args.start g.E.Refusal.refusal))
    (whole_days c.args.behavior c.args.bytes.now c.in-Some.day c.in-Some.ensures.days))
