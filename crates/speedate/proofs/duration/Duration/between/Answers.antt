use Rattle.std.proofs.Common.{rules, ap, ◌∙◌}
use Rattle.speedate_civil.specs.DateTime.{date_and_time}
use Rattle.speedate_civil.proofs.ValueLemmas.{is_date_and_time}
use Rattle.speedate.specs.Duration.{duration_numbers, signed_amount}
use Rattle.speedate.proofs.DurationLemmas.{signed_amount-kept, between-days, between-later}
use Rattle.speedate.proofs.DurationLemmas.{between-ends, date_time_later-exact}
use Rattle.speedate.proofs.duration.Duration.between.Goals as goal

pub returns-clause-answer : goal.returns-clause-answer
returns-clause-answer c = search rules

pub returns-clause-length : goal.returns-clause-length
returns-clause-length c = ap signed_amount (returns-clause-answer c) ∙ signed_amount-kept _

pub returns-clause-ends : goal.returns-clause-ends
returns-clause-ends c =
    between-ends (date_and_time c.args.earlier.now) (date_and_time c.args.later.now)
    (signed_amount (duration_numbers c.from_microseconds.result)) (returns-clause-length c)

pub returns-clause-leads_back : goal.returns-clause-leads_back
returns-clause-leads_back c attached =
    search (rules, date_time_later-exact, is_date_and_time, between-later, returns-clause-length)

pub returns-clause-days : goal.returns-clause-days
returns-clause-days c = search (rules, returns-clause-answer, between-days, is_date_and_time)
