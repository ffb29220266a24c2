use Rattle.std.proofs.Common.{◌∙◌, ap, arith, rules}
use Rattle.speedate_civil.specs.Calendar.{date_of_number}
use Rattle.speedate_civil.proofs.DateTimestampLemmas.{Since, since-counted}
use Rattle.speedate_civil.proofs.date.Date.from_second.Goals as goal

counted : (c : goal.After-from-per_day) → Since c.args.second c.from-per_day.result
counted c = search (rules, since-counted)

pub overflow_cast-seconds-2 : goal.overflow_cast-seconds-2
overflow_cast-seconds-2 c = omega (arith, (counted c).small)

pub from_number-requires : goal.from_number-requires
from_number-requires c = (counted c).small

pub returns-clause-date : goal.returns-clause-date
returns-clause-date c =
    let is =
    since-counted c.args.second c.from-per_day.result c.requires.after c.requires.before
    c.from-per_day.ensures in
    c.from_number.ensures.date ∙ ap date_of_number is.day

pub returns-clause-day : goal.returns-clause-day
returns-clause-day c = search (rules, since-counted)

pub returns-clause-second : goal.returns-clause-second
returns-clause-second c =
    (since-counted c.args.second c.from-per_day.result c.requires.after c.requires.before
    c.from-per_day.ensures).second
