use Rattle.std.proofs.Common.{rules, sym, subst, ℤ, pos, ◌+ℤ◌, ◌-ℤ◌, ◌≤ℤ◌}
use Rattle.speedate_base.specs.Timestamp.{first_second, last_second}
use Rattle.speedate_civil.specs.DateTime.{date_and_time}
use Rattle.speedate_civil.proofs.ValueLemmas.{is_date_and_time, utc_second-late, utc_second-early}
use Rattle.speedate_civil.proofs.datetime.DateTime.timestamp_tz.Goals as goal

pub returns-clause-second : goal.returns-clause-second
returns-clause-second c = search rules

pub returns-clause-least : goal.returns-clause-least
returns-clause-least c =
    let value = c.args.self.now in
    subst (λ (second : ℤ). (first_second -ℤ pos 86399) ≤ℤ second) (sym (returns-clause-second c))
    (utc_second-late (date_and_time value) (is_date_and_time value))

pub returns-clause-largest : goal.returns-clause-largest
returns-clause-largest c =
    let value = c.args.self.now in
    subst (λ (second : ℤ). second ≤ℤ (last_second +ℤ pos 86399)) (sym (returns-clause-second c))
    (utc_second-early (date_and_time value) (is_date_and_time value))
