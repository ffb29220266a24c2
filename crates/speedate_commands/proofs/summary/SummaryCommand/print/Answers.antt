use Rattle.std.proofs.Common.{List, ℕ}
use Rattle.speedate_commands.specs.Summary.{summary_machine, summary_says}
use Rattle.speedate_commands.proofs.SummaryLemmas.{summary_adds, summary_prints_none}
use Rattle.std.proofs.lemmas.Result.{on_ok_weaker}
use Rattle.speedate_commands.proofs.RunLemmas.{ends_saying}
use Rattle.speedate_commands.proofs.summary.SummaryCommand.print.Goals as goal

pub returns-clause-ended : goal.returns-clause-ended
returns-clause-ended g c =
    on_ok_weaker c.run.result (ends_saying summary_machine summary_says c.args.self.now _ _ _ _ _
    (λ (all : List (List ℕ)).
    (summary_adds c.args.self.now all, summary_prints_none c.args.self.now all)))
    c.run.ensures.ended
