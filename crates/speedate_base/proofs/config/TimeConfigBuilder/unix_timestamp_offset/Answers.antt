use Rattle.std.proofs.Common.{rules}
use Rattle.speedate_base.proofs.config.TimeConfigBuilder.unix_timestamp_offset.Goals as goal

pub returns : goal.returns
returns c = search rules
