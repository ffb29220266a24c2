use Rattle.std.proofs.Common.{rules}
use Rattle.speedate_base.proofs.RoundingLemmas.{filled-taken}
use Rattle.speedate_base.proofs.util.rounding.last_digits_taken.Goals as goal

pub returns-clause-twice : goal.returns-clause-twice
returns-clause-twice c = search (rules, filled-taken)
