use Rattle.std.proofs.Common.{◌≡◌, ◌≤◌, ◌+◌, ◌-◌, drop, length, IsOk}
use Rattle.speedate.specs.Duration.{iso_from}
use Rattle.speedate.specs.DurationPlace.{first_item_after}
use Rattle.speedate.specs.IsoForm.{no_sums}
use Rattle.speedate.specs.IsoParts.{bound_test, sums_parts}
use Rattle.speedate.proofs.duration.iso.error_place.first_item.Given as goal

abbrev pub invariant-loop-place : goal.invariant-loop-place
invariant-loop-place l =
    (first_item_after (bound_test l.bound) 0 (no_sums l.fn.order) l.body
    ≡ l.place
    + first_item_after (bound_test l.bound) 0 (sums_parts l.sums) (drop l.place l.body))
    × (l.place ≤ length l.body)
    × IsOk (iso_from (sums_parts l.sums) (drop l.place l.body))

abbrev pub decreases-loop-place : goal.decreases-loop-place
decreases-loop-place l = length l.body - l.place
