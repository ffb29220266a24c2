use Rattle.std.proofs.Common.{rules}
use Rattle.speedate_commands.proofs.FoundLemmas.{ends-part}
use Rattle.speedate_commands.proofs.in_order.print_part.Goals as goal

pub returns-then-failed-clause-ended : goal.returns-then-failed-clause-ended
returns-then-failed-clause-ended g c = search (rules, ends-part)

pub returns-else-failed-clause-ended : goal.returns-else-failed-clause-ended
returns-else-failed-clause-ended g c = search (rules, ends-part)
