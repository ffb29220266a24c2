use Rattle.std.proofs.Common.{◌≡◌, ◌∙◌, rules}
use Rattle.std.proofs.lemmas.List.Sorted.{answers_always}
use Rattle.std.proofs.lemmas.Result.{on_ok_weaker}
use Rattle.speedate.specs.DateTime.{date_and_time}
use Rattle.speedate_uses.specs.Log.{instant_key}
use Rattle.speedate_uses.proofs.LogLemmas.{at-err, at-ok, reversed-sorted-by, reversed-stable-by}
use Rattle.speedate_uses.proofs.LogLemmas.{sorted-from, stable-from}
use Rattle.speedate_uses.proofs.log.sort_by_instant.Goals.{
  else-times-gt-FEW,
  then-times-gt-FEW+else-is_sorted_by_key+else-are_falling+else-is_ok,
}
use Rattle.speedate_uses.proofs.log.sort_by_instant.Goals as goal

-- each call of a closure answers the key of a date-time
pub returns-then-is_sorted_by_key-clause-sorted : goal.returns-then-is_sorted_by_key-clause-sorted
returns-then-is_sorted_by_key-clause-sorted g c =
    sorted-from (λ time. instant_key (date_and_time time)) c.args.times.now
    (c.if-is_sorted_by_key.ensures.cases (λ time. instant_key (date_and_time time))
    (answers_always _ _ _ (λ closure time key after called. search rules)))

pub returns-then-are_falling-clause-sorted : goal.returns-then-are_falling-clause-sorted
returns-then-are_falling-clause-sorted g c =
    reversed-sorted-by (λ time. instant_key (date_and_time time)) c.args.times.now
    c.reverse.new.self c.if-are_falling.ensures.fall c.reverse.ensures.after

pub returns-then-are_falling-clause-stable : goal.returns-then-are_falling-clause-stable
returns-then-are_falling-clause-stable g c =
    reversed-stable-by (λ time. instant_key (date_and_time time)) c.args.times.now
    c.reverse.new.self c.if-are_falling.ensures.fall c.reverse.ensures.after

pub returns-then-is_ok-clause-sorted : goal.returns-then-is_ok-clause-sorted
returns-then-is_ok-clause-sorted g c =
    at-ok c.sort_by_cached_key.result (search rules) c.sort_by_cached_key.ensures.sorted
    (λ time. instant_key (date_and_time time))
    (answers_always _ _ _ (λ closure time key after called. search rules))

pub returns-then-is_ok-clause-stable : goal.returns-then-is_ok-clause-stable
returns-then-is_ok-clause-stable g c =
    c.sort_by_cached_key.ensures.stable (λ time. instant_key (date_and_time time))
    (answers_always _ _ _ (λ closure time key after called. search rules))

pub returns-clause-sorted : goal.returns-clause-sorted
returns-clause-sorted g c =
    on_ok_weaker c.sort_by_key.result
    (λ sorted. sorted (λ time. instant_key (date_and_time time))
    (answers_always _ _ _ (λ closure time key after called. search rules)))
    c.sort_by_key.ensures.sorted

-- keys for which there was no room leave the list as it was
pub returns-clause-stable : goal.returns-clause-stable
returns-clause-stable g c =
    let same : c.if-times-gt-FEW.times ≡ c.args.times.now = elim c.if-times-gt-FEW.branch [
      | then-times-gt-FEW+else-is_sorted_by_key+else-are_falling+else-is_ok w ↦
          w.times-is
          ∙ at-err w.sort_by_cached_key.result (search rules) w.sort_by_cached_key.ensures.err
      | else-times-gt-FEW w ↦ w.times-is
    ] in
    stable-from (λ time. instant_key (date_and_time time)) c.args.times.now
    c.if-times-gt-FEW.times c.sort_by_key.new.self same
    (c.sort_by_key.ensures.stable (λ time. instant_key (date_and_time time))
    (answers_always _ _ _ (λ closure time key after called. search rules)))
