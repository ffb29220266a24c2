use Rattle.std.proofs.Common.{◌≡◌, ◌+◌, ◌*◌, nat_cmp, rules, sym, ◌∙◌}
use Rattle.speedate_civil.specs.Date.{ymd}
use Rattle.speedate_civil.proofs.DateOrderLemmas.{date_text-order, date_order-day_number}
use Rattle.speedate_civil.proofs.DateOrderLemmas.{date_order-number}
use Rattle.speedate_civil.proofs.ValueLemmas.{is_day}
use Rattle.speedate_civil.proofs.date.order.DateOrd.cmp.Goals as goal

pub returns-clause-order : goal.returns-clause-order
returns-clause-order c =
    let first = ymd c.args.self.now in
    let second = ymd c.args.other.now in
    let numbers : c.cmp.result
    ≡ nat_cmp (65536 * first.year + 256 * first.month + first.day)
    (65536 * second.year + 256 * second.month + second.day) = search rules in
    numbers ∙ date_order-number first second (is_day c.args.self.now) (is_day c.args.other.now)

pub returns-clause-text_order : goal.returns-clause-text_order
returns-clause-text_order c =
    let first = ymd c.args.self.now in
    let second = ymd c.args.other.now in
    returns-clause-order c ∙ sym (date_text-order first second)

pub returns-clause-day_order : goal.returns-clause-day_order
returns-clause-day_order c = search (rules, returns-clause-order, date_order-day_number, is_day)
