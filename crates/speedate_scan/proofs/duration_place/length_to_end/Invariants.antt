use Rattle.std.proofs.Common.{◌-◌, length}
use Rattle.speedate_scan.proofs.RunLemmas.{IsRunUpTo}
use Rattle.speedate_scan.proofs.duration_place.length_to_end.Given as goal

abbrev pub invariant-loop-place : goal.invariant-loop-place
invariant-loop-place l = IsRunUpTo l.text l.place

abbrev pub decreases-loop-place : goal.decreases-loop-place
decreases-loop-place l = length l.text - l.place
