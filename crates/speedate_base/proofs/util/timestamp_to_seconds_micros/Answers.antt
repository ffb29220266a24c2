use Rattle.std.proofs.Common.{rules}
use Rattle.speedate_base.proofs.util.timestamp_to_seconds_micros.Goals as goal

pub returns-in-Millisecond : goal.returns-in-Millisecond
returns-in-Millisecond c = search rules
