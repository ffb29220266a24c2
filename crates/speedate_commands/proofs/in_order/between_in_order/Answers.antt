use Rattle.std.proofs.Common.{rules}
use Rattle.std.proofs.lemmas.Result.{on_ok_weaker}
use Rattle.speedate_commands.proofs.FoundLemmas.{rest-file, whole-file}
use Rattle.speedate_commands.proofs.in_order.between_in_order.Goals as goal

pub returns-then-not-is_searched-clause-same : goal.returns-then-not-is_searched-clause-same
returns-then-not-is_searched-clause-same g c =
    on_ok_weaker c.print_part.result (whole-file _ _ _ _ _) c.print_part.ensures.ended

pub returns-then-awaits_header-clause-same : goal.returns-then-awaits_header-clause-same
returns-then-awaits_header-clause-same g c =
    on_ok_weaker c.print_headed.result
    (rest-file c.args.command.now c.print_headed.new.command _ _ _ (search rules))
    c.print_headed.ensures.same

pub returns-clause-same : goal.returns-clause-same
returns-clause-same g c =
    on_ok_weaker c.print_rest.result
    (rest-file c.args.command.now c.print_rest.new.command _ _ _ (search rules))
    (c.print_rest.ensures.same (search rules))
