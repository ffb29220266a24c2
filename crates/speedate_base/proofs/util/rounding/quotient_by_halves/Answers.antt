use Rattle.speedate_base.proofs.RoundingLemmas.{halves-taken}
use Rattle.std.proofs.Common.{arith}
use Rattle.speedate_base.proofs.util.rounding.quotient_by_halves.Goals as goal

pub returns-clause-twice : goal.returns-clause-twice
returns-clause-twice c =
    grind (arith, halves-taken c.args.up c.args.value c.args.rest c.args.unit)
