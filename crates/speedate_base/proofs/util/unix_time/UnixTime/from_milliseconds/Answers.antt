use Rattle.std.proofs.Common.{rules}
use Rattle.speedate_base.proofs.util.unix_time.UnixTime.from_milliseconds.Goals as goal

pub returns : goal.returns
returns c = search rules
