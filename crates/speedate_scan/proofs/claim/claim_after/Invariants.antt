use Rattle.std.proofs.Common.{◌-◌, length}
use Rattle.speedate_scan.proofs.WordLemmas.{IsSearchedUpTo}
use Rattle.speedate_scan.proofs.claim.claim_after.Given as goal

abbrev pub invariant-loop-place : goal.invariant-loop-place
invariant-loop-place l = IsSearchedUpTo l.wanted l.word l.text l.place

abbrev pub decreases-loop-place : goal.decreases-loop-place
decreases-loop-place l = length l.text - l.place
