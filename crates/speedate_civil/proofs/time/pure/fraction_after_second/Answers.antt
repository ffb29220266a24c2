use Rattle.std.proofs.Common.{rules, drop-drop}
use Rattle.speedate_civil.proofs.time.pure.fraction_after_second.Goals as goal

pub returns-clause-length : goal.returns-clause-length
returns-clause-length c = search (rules, drop-drop)

pub returns-clause-microsecond : goal.returns-clause-microsecond
returns-clause-microsecond c = search (rules, drop-drop)
