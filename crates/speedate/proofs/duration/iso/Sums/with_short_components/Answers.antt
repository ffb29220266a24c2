use Rattle.std.proofs.Common.{rules, length-drop}
use Rattle.std.proofs.lemmas.List.{take_rest}
use Rattle.speedate.proofs.DurationPlaceLemmas.{iso_from-next}
use Rattle.speedate.proofs.duration.iso.Sums.with_short_components.Goals as goal

pub loop-next-preserved : goal.loop-next-preserved
loop-next-preserved c = search (rules, iso_from-next, length-drop, take_rest)
