use Rattle.std.proofs.Common.{rules}
use Rattle.speedate_base.proofs.config.offset.require_offset.Goals as goal

pub returns-in_default-clause-answer : goal.returns-in_default-clause-answer
returns-in_default-clause-answer c = search rules
