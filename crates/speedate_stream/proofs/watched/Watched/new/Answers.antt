use Rattle.std.proofs.Common.{rules}
use Rattle.speedate_stream.proofs.watched.Watched.new.Goals as goal

pub returns : goal.returns
returns g c = search rules
