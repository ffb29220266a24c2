use Rattle.std.proofs.Common.{rules, refl}
use Rattle.speedate_base.proofs.config.TimestampUnit.name.Goals as goal

pub returns-in-Microsecond-clause-name : goal.returns-in-Microsecond-clause-name
returns-in-Microsecond-clause-name c = rw (c.in-Microsecond.is) ((2, search rules, refl))
