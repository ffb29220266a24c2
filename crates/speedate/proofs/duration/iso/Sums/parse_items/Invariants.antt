use Rattle.std.proofs.Common.{◌≡◌, ◌≤◌, ◌-◌, length}
use Rattle.speedate_base.specs.Refused.{seen_as}
use Rattle.speedate_base.specs.Requirement.{shifted}
use Rattle.speedate.specs.Duration.{iso_from}
use Rattle.speedate.specs.IsoParts.{sums_parts}
use Rattle.speedate.proofs.duration.iso.Sums.parse_items.Given as goal

abbrev pub invariant-loop-rest : goal.invariant-loop-rest
invariant-loop-rest g l =
    (seen_as (shifted (l.fn.end - length l.rest) g.E.Refusal.refusal)
    (iso_from (sums_parts l.sums) l.rest)
    ≡ seen_as (shifted (l.fn.end - length l.text) g.E.Refusal.refusal)
    (iso_from (sums_parts l.fn.self) l.text))
    × (length l.rest ≤ l.fn.end)

abbrev pub decreases-loop-rest : goal.decreases-loop-rest
decreases-loop-rest g l = length l.rest
