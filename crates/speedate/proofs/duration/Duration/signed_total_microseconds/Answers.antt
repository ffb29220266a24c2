use Rattle.std.proofs.Common.{arith, ap, ◌∙◌}
use Rattle.std.proofs.lemmas.Grind.{common_steps}
use Rattle.speedate.specs.Duration.{duration_numbers, amount_answer}
use Rattle.speedate.proofs.DurationLemmas.{is_duration, amount_answer-back}
use Rattle.speedate.proofs.duration.Duration.signed_total_microseconds.Goals as goal

pub returns-clause-microsecond : goal.returns-clause-microsecond
returns-clause-microsecond c = grind (arith, common_steps)

pub returns-clause-leads_back : goal.returns-clause-leads_back
returns-clause-leads_back c =
    ap amount_answer (returns-clause-microsecond c)
    ∙ amount_answer-back (duration_numbers c.args.self.now) (is_duration c.args.self.now)
