use Rattle.std.proofs.Common.{arith}
use Rattle.std.proofs.lemmas.Grind.{pieces}
use Rattle.speedate_c.proofs.date.print_date.Goals as goal

pub returns-clause-after : goal.returns-clause-after
returns-clause-after c = search (pieces, arith)
