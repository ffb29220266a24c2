use Rattle.speedate.proofs.DurationPlaceLemmas.{iso-read}
use Rattle.speedate.proofs.duration.error_place.duration_error_place.Goals as goal

pub normal_error_place-requires : goal.normal_error_place-requires
normal_error_place-requires c =
    iso-read c.sign-size.result.1 c.args.order c.args.behavior _ c.in-Ok.amount
    c.in-Ok.ensures.answer
