use Rattle.speedate.specs.Base.{Behavior}
use Rattle.speedate.specs.DateTime.{date_and_time}
use Rattle.speedate_scan.proofs.ReadingLemmas.{loose_claims}
use Rattle.speedate_scan.proofs.form.usual_front.Goals as goal

pub returns-in-Some-clause-claims : goal.returns-in-Some-clause-claims
returns-in-Some-clause-claims c =
    loose_claims Behavior.Truncate c.args.text.now
    (date_and_time c.in-Some.value, c.in-Some.size) (c.in-Some.ensures.front Behavior.Truncate)
