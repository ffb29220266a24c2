use Rattle.std.proofs.Common.{Bor, List, ℕ}
use Rattle.speedate.specs.Date.{date_front, ymd}
use Rattle.speedate.specs.Refused.{without_place}
use Rattle.speedate.specs.Requirement.{result_map, with_size}
use Rattle.speedate_uses.specs.Ledger.{dates_in_order}
use Rattle.speedate_uses.proofs.OrderLemmas.{IsReadUpTo}
use Rattle.speedate_uses.proofs.ledger.are_in_order.Given as goal

abbrev pub invariant-loop-place : goal.invariant-loop-place
invariant-loop-place l =
    IsReadUpTo (λ (line : Bor (List ℕ)). without_place (date_front line.now)) dates_in_order l.lines
    (result_map (with_size ymd) l.last) l.place
