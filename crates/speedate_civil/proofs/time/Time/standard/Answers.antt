use Rattle.std.proofs.Common.{zero-add}
use Rattle.std.proofs.Common.{ap, sym, length}
use Rattle.speedate_base.proofs.RefusalLemmas.{refusal-read, shifted-none}
use Rattle.speedate_base.specs.Refused.{seen_as}
use Rattle.speedate_civil.specs.Strict.{strict_time}
use Rattle.speedate_civil.specs.Time.{time_of_day}
use Rattle.speedate_civil.proofs.StrictPlaceLemmas.{strict-within}
use Rattle.speedate_civil.proofs.time.Time.standard.Goals as goal

pub returns-in-Ok-clause-answer : goal.returns-in-Ok-clause-answer
returns-in-Ok-clause-answer g c behavior read =
    refusal-read g.E.Refusal.refusal (strict_time c.args.bytes.now) (time_of_day c.args.time)
    _ _ (ap (seen_as g.E.Refusal.refusal) (sym read))
    (rw (shifted-none g.E.Refusal.refusal) at c.in-Ok.ensures.answer)

pub returns-in-Err-clause-answer : goal.returns-in-Err-clause-answer
returns-in-Err-clause-answer g c behavior read =
    refusal-read g.E.Refusal.refusal (strict_time c.args.bytes.now) (time_of_day c.args.time)
    _ _ (ap (seen_as g.E.Refusal.refusal) (sym read))
    (rw (shifted-none g.E.Refusal.refusal) at c.in-Err.ensures.answer)

pub returns-in-Err-clause-placed : goal.returns-in-Err-clause-placed
returns-in-Err-clause-placed g c behavior read =
    let size = length c.args.bytes.now in
    c.in-Err.ensures.placed size
    (simp zero-add (strict-within behavior c.args.bytes.now _ read))
