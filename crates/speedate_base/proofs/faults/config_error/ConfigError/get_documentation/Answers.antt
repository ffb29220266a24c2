use Rattle.std.proofs.Common.{rules}
use Rattle.speedate_base.proofs.faults.config_error.ConfigError.get_documentation.Goals as goal

pub returns : goal.returns
returns c = search rules
