use Rattle.std.proofs.Common.{rules, neg_ℤ}
use Rattle.std.proofs.lemmas.Result.{IfOk-weaker}
use Rattle.speedate_civil.specs.DateTime.{date_and_time}
use Rattle.speedate.specs.Duration.{duration_numbers, signed_amount}
use Rattle.speedate.proofs.DurationLemmas.{is_duration, opposite, opposite-apart, between-exact}
use Rattle.speedate.proofs.DurationLemmas.{ends-order, ends-back}
use Rattle.speedate.proofs.duration.Duration.before.Goals as goal

pub returns-clause-between : goal.returns-clause-between
returns-clause-between c = search (rules, IfOk-weaker, between-exact, is_duration, opposite)

pub returns-clause-order : goal.returns-clause-order
returns-clause-order c other =
    let next = signed_amount (duration_numbers other) in
    IfOk-weaker c.after.result _ _
    (λ end same. ends-order (date_and_time c.args.start.now) (date_and_time end) _ (neg_ℤ next)
    next (signed_amount (duration_numbers c.args.self.now))
    (opposite-apart _ _ next c.negated.ensures.length) same) c.after.ensures.ends

pub returns-clause-leads_back : goal.returns-clause-leads_back
returns-clause-leads_back c =
    ends-back c.after.result c.args.start.now _ (signed_amount (duration_numbers c.args.self.now))
    c.after.ensures.offset c.negated.ensures.length c.after.ensures.ends

pub returns-clause-answer : goal.returns-clause-answer
returns-clause-answer c = search rules
