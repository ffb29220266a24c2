use Rattle.std.proofs.Common.{rules}
use Rattle.std.proofs.lemmas.Result.{on_ok_weaker}
use Rattle.speedate_commands.proofs.FoundLemmas.{headed-rest, whole-rest}
use Rattle.speedate_commands.proofs.in_order.print_headed.Goals as goal

pub returns-in_default-second-clause-same : goal.returns-in_default-second-clause-same
returns-in_default-second-clause-same g c =
    on_ok_weaker c.print_part.result (whole-rest _ _ _ _ _) c.print_part.ensures.ended

pub returns-clause-same : goal.returns-clause-same
returns-clause-same g c =
    headed-rest c.args.command.now c.print_part-2.new.command c.print_rest.new.command _ _ _ _
    c.print_rest.result c.in-Some.begin c.requires.awaits (search rules)
    c.in_ok-print_part.ensures.ended (search rules) c.print_rest.ensures.same
