use Rattle.std.proofs.Common.{rules}
use Rattle.speedate_civil.proofs.FullClockLemmas.{looks-offset}
use Rattle.speedate_civil.proofs.time.offset.has_hour_and_minute.Goals as goal

pub returns : goal.returns
returns c = search (rules, looks-offset)
