use Rattle.speedate.proofs.DurationPlaceLemmas.{iso-read}
use Rattle.speedate.proofs.duration.Duration.placed.Goals as goal

pub normal_form-requires-clause-read : goal.normal_form-requires-clause-read
normal_form-requires-clause-read c =
    iso-read c.sign-negative.result.1 c.args.order c.args.behavior _ c.in_ok-amount.amount
    c.in_ok-amount.ensures.answer
