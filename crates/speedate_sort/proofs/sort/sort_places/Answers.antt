use Rattle.std.proofs.Common.{rules}
use Rattle.std.proofs.lemmas.List.Sorted.{answers_always}
use Rattle.std.proofs.lemmas.Result.{on_ok_weaker}
use Rattle.speedate_sort.specs.Sort.{Place}
use Rattle.speedate_sort.proofs.OrderLemmas.{in_order-from_sort_by_key}
use Rattle.speedate_sort.proofs.sort.sort_places.Goals as goal

pub returns-clause-sorted : goal.returns-clause-sorted
returns-clause-sorted c =
    let key = λ (place : Place). place.instant in
    let keys = answers_always _ _ _ (λ f a r next called. search rules) in
    on_ok_weaker c.sort_by_key.result
    (λ sorted. in_order-from_sort_by_key key _ _ (sorted key keys)
    (c.sort_by_key.ensures.stable key keys))
    c.sort_by_key.ensures.sorted
