use Rattle.std.proofs.Common.{rules}
use Rattle.std.proofs.lemmas.List.Sums.{fold_more}
use Rattle.speedate.proofs.duration.Duration.sum.Goals as goal

pub loop-duration-preserved : goal.loop-duration-preserved
loop-duration-preserved c = search (rules, fold_more)
