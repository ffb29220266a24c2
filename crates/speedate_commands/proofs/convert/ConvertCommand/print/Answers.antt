use Rattle.std.proofs.Common.{List, ℕ, refl}
use Rattle.speedate_commands.specs.Convert.{convert_machine, convert_says}
use Rattle.speedate_commands.proofs.LineLemmas.{convert_prints}
use Rattle.std.proofs.lemmas.Result.{on_ok_weaker}
use Rattle.speedate_commands.proofs.RunLemmas.{ends_saying}
use Rattle.speedate_commands.proofs.convert.ConvertCommand.print.Goals as goal

pub returns-clause-ended : goal.returns-clause-ended
returns-clause-ended g c =
    on_ok_weaker c.run.result (ends_saying convert_machine convert_says c.args.self.now _ _ _ _ _
    (λ (all : List (List ℕ)). (refl, convert_prints c.args.self.now all))) c.run.ensures.ended
