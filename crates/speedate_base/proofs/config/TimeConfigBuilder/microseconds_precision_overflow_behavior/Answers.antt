use Rattle.std.proofs.Common.{rules}
use Rattle.speedate_base.proofs.config.TimeConfigBuilder.microseconds_precision_overflow_behavior.Goals as goal

pub returns : goal.returns
returns c = search rules
