use Rattle.std.proofs.Common.{ℕ, ℤ, is_lt}
use Rattle.speedate_uses.specs.Log.{instant_key, instant_key_order}
use Rattle.speedate.specs.DateTime.{date_and_time}
use Rattle.speedate_uses.proofs.OrderLemmas.{IsReadUpTo}
use Rattle.speedate_uses.proofs.log.are_falling.Given as goal

abbrev pub invariant-loop-place : goal.invariant-loop-place
invariant-loop-place l =
    IsReadUpTo (λ time. instant_key (date_and_time time))
    (λ (last next : ℤ × ℕ). is_lt (instant_key_order next last)) l.times (l.last.0, l.last.1)
    l.place
