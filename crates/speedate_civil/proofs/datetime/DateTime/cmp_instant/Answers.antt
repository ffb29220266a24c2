use Rattle.std.proofs.Common.{◌≡◌, ◌∙◌, ap, sym, subst, rules}
use Rattle.std.specs.Ordering.{ordering_reverse}
use Rattle.speedate_civil.specs.DateTime.{date_time_instant, date_time_instant_order, date_and_time}
use Rattle.speedate_civil.specs.Instant.{IsNotAfter}
use Rattle.speedate_civil.proofs.InstantOrderLemmas.{date_time_text-order, by_instant-reversed}
use Rattle.speedate_civil.proofs.InstantOrderLemmas.{by_instant-transitive}
use Rattle.speedate_civil.proofs.InstantOrderLemmas.{date_time_instant_order-across}
use Rattle.speedate_civil.proofs.ValueLemmas.{is_date_and_time}
use Rattle.speedate_civil.proofs.datetime.DateTime.cmp_instant.Goals as goal

pub returns-clause-text_order : goal.returns-clause-text_order
returns-clause-text_order c =
    let first = c.args.self.now in
    let second = c.args.other.now in
    let order : c.cmp_instant.result ≡ date_time_instant_order (date_and_time first)
    (date_and_time second) = search rules in
    λ none nothing. order ∙ date_time_text-order (date_and_time first) (date_and_time second)
    (is_date_and_time first) (is_date_and_time second) none nothing

pub returns-clause-reversed : goal.returns-clause-reversed
returns-clause-reversed c =
    let first = date_and_time c.args.self.now in
    let second = date_and_time c.args.other.now in
    let order : c.cmp_instant.result ≡ date_time_instant_order first second = search rules in
    by_instant-reversed (λ value. value.time.offset) date_time_instant first second
    ∙ ap ordering_reverse (sym order)

pub returns-clause-transitive : goal.returns-clause-transitive
returns-clause-transitive c =
    let first = date_and_time c.args.self.now in
    let second = date_and_time c.args.other.now in
    let order : c.cmp_instant.result ≡ date_time_instant_order first second = search rules in
    λ third one two before. by_instant-transitive (λ value. value.time.offset)
    date_time_instant first second (date_and_time third) one two (subst IsNotAfter order before)

pub returns-clause-across : goal.returns-clause-across
returns-clause-across c = date_time_instant_order-across
