use Rattle.std.proofs.Common.{rules}
use Rattle.std.proofs.lemmas.Int.{to_z-of_z}
use Rattle.speedate_base.proofs.TimestampLemmas.{instant_at-carried}
use Rattle.speedate_base.proofs.util.unix_time.UnixTime.from_second_and_microseconds.Goals as goal

pub returns : goal.returns
returns c = record { instant = search (rules, to_z-of_z, instant_at-carried) }
