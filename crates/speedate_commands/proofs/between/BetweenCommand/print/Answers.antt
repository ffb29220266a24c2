use Rattle.std.proofs.Common.{List, ℕ, refl}
use Rattle.speedate_commands.specs.Between.{between_machine, between_says}
use Rattle.speedate_commands.proofs.EntryLemmas.{between_prints}
use Rattle.std.proofs.lemmas.Result.{on_ok_weaker}
use Rattle.speedate_commands.proofs.RunLemmas.{ends_saying}
use Rattle.speedate_commands.proofs.between.BetweenCommand.print.Goals as goal

pub returns-clause-ended : goal.returns-clause-ended
returns-clause-ended g c =
    on_ok_weaker c.run.result (ends_saying between_machine between_says c.args.self.now _ _ _ _ _
    (λ (all : List (List ℕ)). (refl, between_prints c.args.self.now all))) c.run.ensures.ended
