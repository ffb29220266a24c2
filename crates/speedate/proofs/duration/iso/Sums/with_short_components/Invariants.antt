use Rattle.std.proofs.Common.{◌≡◌, ◌≤◌, ◌-◌, length}
use Rattle.speedate_base.specs.Refused.{from_byte}
use Rattle.speedate.specs.Duration.{iso_from}
use Rattle.speedate.specs.IsoParts.{sums_parts}
use Rattle.speedate.proofs.duration.iso.Sums.with_short_components.Given as goal

abbrev pub invariant-loop-next : goal.invariant-loop-next
invariant-loop-next l =
    (from_byte (length l.text - length l.rest) (iso_from (sums_parts l.sums) l.rest)
    ≡ iso_from (sums_parts l.fn.self) l.text)
    × (length l.rest ≤ length l.text)

abbrev pub decreases-loop-next : goal.decreases-loop-next
decreases-loop-next l = length l.rest
