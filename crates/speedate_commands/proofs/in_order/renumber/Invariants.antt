use Rattle.std.proofs.Common.{◌≡◌}
use Rattle.speedate_commands.specs.InOrder.{moved, renumbered}
use Rattle.speedate_commands.proofs.in_order.renumber.Given as goal

abbrev pub invariant-loop-index : goal.invariant-loop-index
invariant-loop-index l =
    l.scan ≡ renumbered l.fn.scan l.skipped (moved l.index l.first l.skipped l.fn.scan.reports)
