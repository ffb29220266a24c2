use Rattle.std.proofs.Common.{rules}
use Rattle.speedate_base.proofs.config.date_time.DateTimeConfigBuilder.time_config.Goals as goal

pub returns : goal.returns
returns c = search rules
