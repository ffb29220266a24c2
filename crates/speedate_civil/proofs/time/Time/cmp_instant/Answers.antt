use Rattle.std.proofs.Common.{◌≡◌, ◌∙◌, subst, rules}
use Rattle.speedate_civil.specs.Time.{time_of_day, time_instant, time_instant_order}
use Rattle.speedate_civil.specs.Instant.{IsNotAfter}
use Rattle.speedate_civil.proofs.InstantOrderLemmas.{time_text-order, by_instant-transitive}
use Rattle.speedate_civil.proofs.InstantOrderLemmas.{time_instant_order-across}
use Rattle.speedate_civil.proofs.ValueLemmas.{is_time}
use Rattle.speedate_civil.proofs.time.Time.cmp_instant.Goals as goal

pub returns-clause-text_order : goal.returns-clause-text_order
returns-clause-text_order c =
    let first = c.args.self.now in
    let second = c.args.other.now in
    let order : c.cmp_instant.result ≡ time_instant_order (time_of_day first) (time_of_day second) =
    search rules in
    λ none nothing. order ∙ time_text-order (time_of_day first) (time_of_day second)
    (is_time first) (is_time second) none nothing

pub returns-clause-transitive : goal.returns-clause-transitive
returns-clause-transitive c =
    let first = time_of_day c.args.self.now in
    let second = time_of_day c.args.other.now in
    let order : c.cmp_instant.result ≡ time_instant_order first second = search rules in
    λ third one two before. by_instant-transitive (λ value. value.offset) time_instant first second
    (time_of_day third) one two (subst IsNotAfter order before)

pub returns-clause-across : goal.returns-clause-across
returns-clause-across c = time_instant_order-across
