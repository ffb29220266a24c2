use Rattle.std.proofs.Common.{◌∙◌, sym, arith}
use Rattle.speedate.specs.Duration.{duration_numbers, signed_amount}
use Rattle.speedate_uses.proofs.ScheduleLemmas.{first_run, not-positive}
use Rattle.speedate_uses.proofs.schedule.next_run.Goals as goal

pub returns-clause-first : goal.returns-clause-first
returns-clause-first c = grind (arith, first_run)

pub returns-clause-none : goal.returns-clause-none
returns-clause-none c = (
  λ same. absurd (cc),
  λ none. absurd (not-positive (signed_amount (duration_numbers c.args.every.now))
      (sym c.is_positive.ensures ∙ c.if-not-is_positive.false) none),
)
