use Rattle.std.proofs.Common.{List, ℕ, refl}
use Rattle.speedate_commands.specs.Check.{check_machine, check_says}
use Rattle.speedate_commands.proofs.LineLemmas.{check_prints}
use Rattle.std.proofs.lemmas.Result.{on_ok_weaker}
use Rattle.speedate_commands.proofs.RunLemmas.{ends_saying}
use Rattle.speedate_commands.proofs.check.CheckCommand.print.Goals as goal

pub returns-clause-ended : goal.returns-clause-ended
returns-clause-ended g c =
    on_ok_weaker c.run.result (ends_saying check_machine check_says c.args.self.now _ _ _ _ _
    (λ (all : List (List ℕ)). (refl, check_prints c.args.self.now all))) c.run.ensures.ended
