use Rattle.std.proofs.Common.{arith}
use Rattle.std.proofs.lemmas.Grind.{common_steps}
use Rattle.speedate.proofs.duration.text.push_fraction.Goals as goal

pub push-requires : goal.push-requires
push-requires g c = grind (arith, common_steps)

pub push_str-requires : goal.push_str-requires
push_str-requires g c = grind (arith, common_steps)

pub push_str-requires-then-third-ne0 : goal.push_str-requires-then-third-ne0
push_str-requires-then-third-ne0 g c = grind (arith, common_steps)

pub push_last_places-requires : goal.push_last_places-requires
push_last_places-requires g c = grind (arith, common_steps)

pub push_str-requires-then-second-ne0 : goal.push_str-requires-then-second-ne0
push_str-requires-then-second-ne0 g c = grind (arith, common_steps)

pub push_last_places-requires-then-second-ne0 : goal.push_last_places-requires-then-second-ne0
push_last_places-requires-then-second-ne0 g c = grind (arith, common_steps)

pub push_last_places-requires-else-second-ne0 : goal.push_last_places-requires-else-second-ne0
push_last_places-requires-else-second-ne0 g c = grind (arith, common_steps)

pub returns-then-third-ne0 : goal.returns-then-third-ne0
returns-then-third-ne0 g c = grind (arith, common_steps)

pub returns-then-second-ne0 : goal.returns-then-second-ne0
returns-then-second-ne0 g c = grind (arith, common_steps)

pub returns-else-second-ne0 : goal.returns-else-second-ne0
returns-else-second-ne0 g c = grind (arith, common_steps)
