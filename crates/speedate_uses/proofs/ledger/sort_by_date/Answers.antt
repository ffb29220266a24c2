use Rattle.std.proofs.Common.{rules}
use Rattle.std.proofs.lemmas.List.Sorted.{answers_always}
use Rattle.std.proofs.lemmas.Result.{on_ok_weaker}
use Rattle.speedate_uses.proofs.ledger.sort_by_date.Goals as goal

-- each call of the closure answers the date of an entry
pub returns-clause-sorted : goal.returns-clause-sorted
returns-clause-sorted g c =
    on_ok_weaker c.sort_by_key.result
    (λ sorted. sorted (λ entry. entry.date)
    (answers_always _ _ _ (λ closure entry date after called. search rules)))
    c.sort_by_key.ensures.sorted

pub returns-clause-stable : goal.returns-clause-stable
returns-clause-stable g c =
    c.sort_by_key.ensures.stable (λ entry. entry.date)
    (answers_always _ _ _ (λ closure entry date after called. search rules))
