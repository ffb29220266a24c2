use Rattle.std.proofs.Common.{arith}
use Rattle.std.proofs.lemmas.Grind.{common_steps}
use Rattle.std.proofs.lemmas.List.{take_min}
use Rattle.speedate.proofs.TextsLemmas.{length-cut_at}
use Rattle.speedate.proofs.column.texts.read_texts.Goals as goal

pub returns : goal.returns
returns g c = grind (arith, common_steps, length-cut_at, take_min)
