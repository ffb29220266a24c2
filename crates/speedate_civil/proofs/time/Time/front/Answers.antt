use Rattle.std.proofs.Common.{◌∙◌, ap, ℕ}
use Rattle.speedate_base.proofs.RefusalLemmas.{shifted-none}
use Rattle.speedate_civil.specs.Base.{ParseError}
use Rattle.speedate_base.specs.Refused.{seen_as}
use Rattle.speedate_civil.specs.Time.{time_front}
use Rattle.speedate_civil.proofs.time.Time.front.Goals as goal

pub returns-clause-answer : goal.returns-clause-answer
returns-clause-answer g c =
    c.front_at.ensures.answer
    ∙ ap (λ (refuse : ParseError → ℕ → _). seen_as refuse
    (time_front c.args.behavior c.args.bytes.now))
    (shifted-none g.E.Refusal.refusal)
