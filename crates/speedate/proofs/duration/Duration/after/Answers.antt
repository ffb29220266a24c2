use Rattle.std.proofs.Common.{refl, rules, subst, sym}
use Rattle.std.proofs.Math.IntN.{neg_ℤ-neg_ℤ}
use Rattle.std.proofs.lemmas.Result.{IfOk-weaker}
use Rattle.speedate_civil.specs.DateTime.{date_and_time, IsShownAt}
use Rattle.speedate.specs.Duration.{duration_numbers, signed_amount}
use Rattle.speedate.proofs.DurationLemmas.{is_duration, shown-later, between-exact, ends-order}
use Rattle.speedate.proofs.DurationLemmas.{ends-back}
use Rattle.speedate.proofs.duration.Duration.after.Goals as goal

pub returns-clause-ends : goal.returns-clause-ends
returns-clause-ends c =
    let start = date_and_time c.args.start.now in
    IfOk-weaker c.from_unix_time.result _ _
    (λ end shown. shown-later start (date_and_time end)
    (signed_amount (duration_numbers c.args.self.now))
    (subst (λ instant. IsShownAt start.time.offset instant (date_and_time end))
    c.end.ensures.instant shown)) c.from_unix_time.ensures.shown

pub returns-clause-between : goal.returns-clause-between
returns-clause-between c =
    IfOk-weaker c.from_unix_time.result _ _
    (λ end same. between-exact (date_and_time c.args.start.now) (date_and_time end)
    (duration_numbers c.args.self.now) (is_duration c.args.self.now) same)
    (returns-clause-ends c)

pub returns-clause-order : goal.returns-clause-order
returns-clause-order c other =
    let amount = signed_amount (duration_numbers c.args.self.now) in
    let next = signed_amount (duration_numbers other) in
    IfOk-weaker c.from_unix_time.result _ _
    (λ end same. ends-order (date_and_time c.args.start.now) (date_and_time end)
    amount next amount next refl same) (returns-clause-ends c)

pub returns-clause-leads_back : goal.returns-clause-leads_back
returns-clause-leads_back c =
    ends-back c.from_unix_time.result c.args.start.now
    (signed_amount (duration_numbers c.args.self.now)) _ (search rules) (sym (neg_ℤ-neg_ℤ _))
    (returns-clause-ends c)
