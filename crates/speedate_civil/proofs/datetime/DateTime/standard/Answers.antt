use Rattle.std.proofs.Common.{ap, length, sym}
use Rattle.speedate_base.proofs.RefusalLemmas.{refusal-read}
use Rattle.speedate_base.specs.Refused.{seen_as}
use Rattle.speedate_civil.specs.DateTime.{date_and_time}
use Rattle.speedate_civil.specs.Strict.{strict_date_time}
use Rattle.speedate_civil.proofs.StrictPlaceLemmas.{strict_date_time-within}
use Rattle.speedate_civil.proofs.datetime.DateTime.standard.Goals as goal

pub returns-in-Ok-clause-answer : goal.returns-in-Ok-clause-answer
returns-in-Ok-clause-answer g c behavior read =
    refusal-read g.E.Refusal.refusal (strict_date_time c.args.bytes.now)
    (date_and_time c.args.value) _ _ (ap (seen_as g.E.Refusal.refusal) (sym read))
    c.in-Ok.ensures.answer

pub returns-in-Err-clause-answer : goal.returns-in-Err-clause-answer
returns-in-Err-clause-answer g c behavior read =
    refusal-read g.E.Refusal.refusal (strict_date_time c.args.bytes.now)
    (date_and_time c.args.value) _ _ (ap (seen_as g.E.Refusal.refusal) (sym read))
    c.in-Err.ensures.answer

pub returns-in-Err-clause-placed : goal.returns-in-Err-clause-placed
returns-in-Err-clause-placed g c behavior read =
    c.in-Err.ensures.placed (length c.args.bytes.now)
    (strict_date_time-within behavior c.args.bytes.now _ read)
