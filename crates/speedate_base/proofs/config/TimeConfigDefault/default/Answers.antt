use Rattle.std.proofs.Common.{rules}
use Rattle.speedate_base.proofs.config.TimeConfigDefault.default.Goals as goal

pub returns : goal.returns
returns c = search rules
