use Rattle.std.proofs.Common.{rules}
use Rattle.speedate_base.proofs.config.DateConfigBuilder.timestamp_unit.Goals as goal

pub returns : goal.returns
returns c = search rules
