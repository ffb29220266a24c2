use Rattle.std.proofs.Common.{ℕ, ℤ, arith, is_lt, rules}
use Rattle.speedate.specs.DateTime.{date_and_time}
use Rattle.speedate_uses.specs.Log.{instant_key, instant_key_order}
use Rattle.speedate_uses.proofs.LogLemmas.{key-read}
use Rattle.speedate_uses.proofs.OrderLemmas.{read-all, read-first, read-next, read-stopped}
use Rattle.speedate_uses.proofs.log.are_falling.Goals as goal

pub loop-place-init : goal.loop-place-init
loop-place-init c =
    read-first (λ time. instant_key (date_and_time time))
    (λ (last next : ℤ × ℕ). is_lt (instant_key_order next last)) c.args.times.now
    (c.instant_key-last.result.0, c.instant_key-last.result.1)
    (key-read (λ time. instant_key (date_and_time time)) c.args.times.now 0
    c.index-times-0.result (c.instant_key-last.result.0, c.instant_key-last.result.1)
    (grind arith) c.index-times-0.is c.instant_key-last.ensures.key)

pub returns-then-not-is_lt : goal.returns-then-not-is_lt
returns-then-not-is_lt c = record {
  fall = read-stopped (λ time. instant_key (date_and_time time))
      (λ (last next : ℤ × ℕ). is_lt (instant_key_order next last)) c.args.times.now
      (c.loop-place.last.0, c.loop-place.last.1)
      (c.instant_key-next.result.0, c.instant_key-next.result.1) c.loop-place.place
      c.loop-place.invariant c.loop-place.auto.place c.loop-place-test.true
      (key-read (λ time. instant_key (date_and_time time)) c.args.times.now c.loop-place.place
      c.index-times-place.result (c.instant_key-next.result.0, c.instant_key-next.result.1)
      c.loop-place-test.true c.index-times-place.is c.instant_key-next.ensures.key)
      (search rules);
}

pub loop-place-preserved : goal.loop-place-preserved
loop-place-preserved c =
    read-next (λ time. instant_key (date_and_time time))
    (λ (last next : ℤ × ℕ). is_lt (instant_key_order next last)) c.args.times.now
    (c.loop-place.last.0, c.loop-place.last.1)
    (c.instant_key-next.result.0, c.instant_key-next.result.1) c.loop-place.place
    c.loop-place.invariant
    (key-read (λ time. instant_key (date_and_time time)) c.args.times.now c.loop-place.place
    c.index-times-place.result (c.instant_key-next.result.0, c.instant_key-next.result.1)
    c.loop-place-test.true c.index-times-place.is c.instant_key-next.ensures.key)
    (search rules)

pub returns : goal.returns
returns c = record {
  fall = read-all (λ time. instant_key (date_and_time time))
      (λ (last next : ℤ × ℕ). is_lt (instant_key_order next last)) c.args.times.now
      (c.loop-place.last.0, c.loop-place.last.1) c.loop-place.place c.loop-place.invariant
      (omega arith);
}
