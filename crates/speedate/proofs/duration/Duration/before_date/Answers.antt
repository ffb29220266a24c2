use Rattle.std.proofs.Common.{rules, ◌≡◌}
use Rattle.speedate_base.specs.Requirement.{result_map}
use Rattle.speedate_civil.specs.Date.{ymd}
use Rattle.speedate.specs.Duration.{duration_numbers, date_later, negated}
use Rattle.speedate.proofs.DurationLemmas.{of-date, date_earlier-order}
use Rattle.speedate.proofs.duration.Duration.before_date.Goals as goal

pub returns-clause-order : goal.returns-clause-order
returns-clause-order c other =
    let numbers = duration_numbers c.args.self.now in
    let start = ymd c.args.start.now in
    let answer : result_map ymd c.after_date.result ≡ date_later (negated numbers) start =
    search rules in
    of-date c.after_date.result _ _ answer
    (date_earlier-order numbers (duration_numbers other) start)
