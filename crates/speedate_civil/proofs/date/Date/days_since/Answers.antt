use Rattle.std.proofs.Common.{◌≡◌, ◌∙◌, ap, sym, rules, ℤ, pos, ◌-ℤ◌, int_cmp, w32, of_z, to_z}
use Rattle.speedate_civil.specs.Date.{ymd}
use Rattle.speedate_civil.specs.Calendar.{days_between, day_number}
use Rattle.speedate_civil.proofs.DateOrderLemmas.{date_order-day_number, day-difference-order}
use Rattle.speedate_civil.proofs.ValueLemmas.{is_day}
use Rattle.speedate_civil.proofs.date.Date.days_since.Goals as goal

pub returns-clause-order : goal.returns-clause-order
returns-clause-order c =
    let later = ymd c.args.self.now in
    let earlier = ymd c.args.earlier.now in
    let counted : to_z w32 (of_z w32 (to_z w32 c.day_number.result
    -ℤ to_z w32 c.day_number-2.result)) ≡ days_between earlier later = search rules in
    ap (λ (days : ℤ). int_cmp days (pos 0)) counted
    ∙ day-difference-order (day_number later) (day_number earlier)
    ∙ sym (date_order-day_number later earlier (is_day c.args.self.now) (is_day c.args.earlier.now))
