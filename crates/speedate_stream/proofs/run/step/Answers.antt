use Rattle.std.proofs.Common.{rules, refl}
use Rattle.speedate_stream.proofs.SentLemmas.{OnlyWrites-front}
use Rattle.speedate_stream.proofs.run.step.Goals as goal

pub returns-in_err-make_room-clause-printed : goal.returns-in_err-make_room-clause-printed
returns-in_err-make_room-clause-printed g c =
    OnlyWrites-front _ _ _ (search rules) c.in_err-make_room.ensures.sent refl
