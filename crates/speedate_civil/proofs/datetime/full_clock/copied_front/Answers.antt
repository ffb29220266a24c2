use Rattle.std.proofs.Common.{ℕ, rules}
use Rattle.speedate_civil.specs.DateTime.{DateAndTime, date_and_time}
use Rattle.speedate_civil.proofs.FrontLemmas.{date_time_front-taken}
use Rattle.speedate_civil.proofs.ReadLemmas.{read-value}
use Rattle.speedate_civil.proofs.datetime.full_clock.copied_front.Goals as goal

pub returns-in-Some-clause-front : goal.returns-in-Some-clause-front
returns-in-Some-clause-front c behavior =
    let longer = c.before_line_feeds.result in
    let value : DateAndTime × ℕ = (date_and_time c.in-Some.value, c.in-Some.size) in
    let taken = read-value _ _ value (c.in-Some.ensures.front behavior)
    (date_time_front-taken behavior longer) in
    search rules
