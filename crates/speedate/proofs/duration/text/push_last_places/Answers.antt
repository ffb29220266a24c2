use Rattle.std.proofs.Common.{arith}
use Rattle.std.proofs.lemmas.Grind.{common_steps}
use Rattle.speedate.proofs.duration.text.push_last_places.Goals as goal

pub push-requires : goal.push-requires
push-requires g c = grind (arith, common_steps)
