use Rattle.std.proofs.Common.{rules}
use Rattle.speedate.proofs.DurationPlaceLemmas.{iso_from-part}
use Rattle.speedate.proofs.duration.iso.Sums.parse.Goals as goal

pub returns : goal.returns
returns g c = search (rules, iso_from-part)
