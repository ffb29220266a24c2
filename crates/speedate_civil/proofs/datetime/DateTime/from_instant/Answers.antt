use Rattle.std.proofs.Common.{◌≡◌, ◌∙◌, ap, sym, subst, ℕ, rules, w64, SFits}
use Rattle.std.proofs.lemmas.Int.{to_z-of_z}
use Rattle.speedate_civil.specs.DateTime.{DateAndTime, IsShownAt, date_time_at}
use Rattle.speedate_civil.specs.Time.{time_at, time_of_day}
use Rattle.speedate_base.specs.Timestamp.{unix_instant}
use Rattle.speedate_civil.specs.Date.{ymd}
use Rattle.speedate_civil.proofs.DateTimeInstantLemmas.{date_time_at-shown}
use Rattle.speedate_civil.proofs.datetime.DateTime.from_instant.Goals as goal

pub returns-clause-shown : goal.returns-clause-shown
returns-clause-shown c =
    let instant = unix_instant c.args.time in
    let offset = c.args.offset in
    let fits : SFits w64 c.args.time.second = search rules in
    let date = simp to_z-of_z at c.from_second-second.ensures.date in
    let second = simp to_z-of_z at c.from_second-second.ensures.second in
    let time = c.from_second-time.ensures.time
    ∙ ap (λ (n : ℕ). time_at n instant.microsecond offset) second in
    let value : ◌≡◌ {A = DateAndTime}
    (record {
      date = ymd c.from_second-second.result.0;
      time = time_of_day c.from_second-time.result;
    })
    (date_time_at offset instant) = λ i. record { date = date i; time = time i } in
    subst (IsShownAt offset instant) (sym value)
    (date_time_at-shown offset instant c.requires.within.0)
