use Rattle.std.proofs.Common.{Bor, List, ℕ, arith, sym}
use Rattle.speedate.specs.Date.{date_front, ymd}
use Rattle.speedate.specs.Refused.{without_place}
use Rattle.speedate.specs.Requirement.{result_map, with_size}
use Rattle.speedate_uses.specs.Ledger.{dates_in_order}
use Rattle.speedate_uses.proofs.OrderLemmas.{read-all, read-first, read-next, read-stopped}
use Rattle.speedate_uses.proofs.ledger.are_in_order.Goals as goal

pub loop-place-init : goal.loop-place-init
loop-place-init c =
    read-first (λ (line : Bor (List ℕ)). without_place (date_front line.now)) dates_in_order
    c.args.lines.now
    (result_map (with_size ymd) c.front_at-last.result) c.front_at-last.ensures.front

pub returns-then-not-are_dates_in_order : goal.returns-then-not-are_dates_in_order
returns-then-not-are_dates_in_order c = record {
  order = read-stopped (λ (line : Bor (List ℕ)). without_place (date_front line.now)) dates_in_order
      c.args.lines.now (result_map (with_size ymd) c.loop-place.last)
      (result_map (with_size ymd) c.front_at-next.result) c.loop-place.place c.loop-place.invariant
      c.loop-place.auto.place c.loop-place-test.true c.front_at-next.ensures.front
      (sym c.if-not-are_dates_in_order.ensures.order);
}

pub loop-place-preserved : goal.loop-place-preserved
loop-place-preserved c =
    let next = result_map (with_size ymd) c.front_at-next.result in
    read-next (λ (line : Bor (List ℕ)). without_place (date_front line.now)) dates_in_order
    c.args.lines.now (result_map (with_size ymd) c.loop-place.last)
    next c.loop-place.place c.loop-place.invariant c.front_at-next.ensures.front
    (sym (c.if-not-are_dates_in_order.ensures.order))

pub returns : goal.returns
returns c = record {
  order = read-all (λ (line : Bor (List ℕ)). without_place (date_front line.now)) dates_in_order
      c.args.lines.now
      (result_map (with_size ymd) c.loop-place.last) c.loop-place.place c.loop-place.invariant
      (omega arith);
}
