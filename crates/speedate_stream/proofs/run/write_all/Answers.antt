use Rattle.std.proofs.Common.{arith}
use Rattle.std.proofs.lemmas.Grind.{common_steps}
use Rattle.speedate_stream.proofs.SentLemmas.{writing}
use Rattle.speedate_stream.proofs.run.write_all.Goals as goal

pub loop-rest-preserved : goal.loop-rest-preserved
loop-rest-preserved g c = grind (arith, writing)

pub returns : goal.returns
returns g c = grind (arith, common_steps)
