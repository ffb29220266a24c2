use Rattle.std.proofs.Common.{List, ℕ}
use Rattle.speedate_commands.specs.Sum.{sum_machine, sum_says}
use Rattle.speedate_commands.proofs.SumLemmas.{sum_adds, sum_prints_none}
use Rattle.std.proofs.lemmas.Result.{on_ok_weaker}
use Rattle.speedate_commands.proofs.RunLemmas.{ends_saying}
use Rattle.speedate_commands.proofs.sum.SumCommand.print.Goals as goal

pub returns-clause-ended : goal.returns-clause-ended
returns-clause-ended g c =
    on_ok_weaker c.run.result (ends_saying sum_machine sum_says c.args.self.now _ _ _ _ _
    (λ (all : List (List ℕ)).
    (sum_adds c.args.self.now all, sum_prints_none c.args.self.now all)))
    c.run.ensures.ended
