use Rattle.std.proofs.Common.{◌≡◌, arith, rules}
use Rattle.speedate_base.specs.Requirement.{result_map}
use Rattle.std.proofs.lemmas.Bool.Decides.{nat_tests}
use Rattle.std.proofs.lemmas.Result.{IfOk-weaker}
use Rattle.speedate_civil.specs.Date.{ymd}
use Rattle.speedate.specs.Duration.{duration_numbers, date_later}
use Rattle.speedate.proofs.DurationLemmas.{date-back, date_later-order, of-date}
use Rattle.speedate.proofs.duration.Duration.after_date.Goals as goal

pub returns-clause-days : goal.returns-clause-days
returns-clause-days c = search rules

pub returns-clause-leads_back : goal.returns-clause-leads_back
returns-clause-leads_back c =
    IfOk-weaker c.ok_or.result _ _
    (λ end moved. date-back (duration_numbers c.args.self.now) c.args.start.now (ymd end)
    (grind (arith, nat_tests)) moved) (returns-clause-days c)

pub returns-clause-order : goal.returns-clause-order
returns-clause-order c other =
    let numbers = duration_numbers c.args.self.now in
    let start = ymd c.args.start.now in
    let answer : result_map ymd c.ok_or.result ≡ date_later numbers start =
    grind (arith, nat_tests) in
    of-date c.ok_or.result _ _ answer (date_later-order numbers (duration_numbers other) start)
