use Rattle.std.proofs.Common.{rules, ◌≡◌, ◌∙◌, ap, sym, subst, arith, None, Ok, ℤ, ◌≤ℤ◌}
use Rattle.std.proofs.lemmas.Int.{ints}
use Rattle.speedate_base.specs.Timestamp.{first_second, last_second}
use Rattle.speedate_civil.specs.DateTime.{DateAndTime, IsDateAndTime, local_second}
use Rattle.speedate_civil.specs.DateTime.{date_time_timestamp_answer, date_and_time}
use Rattle.speedate_civil.specs.Base.{TimestampUnit}
use Rattle.speedate_civil.proofs.DateTimeTimestampLemmas.{date_time_timestamp-leads_back}
use Rattle.speedate_civil.proofs.ValueLemmas.{is_date_and_time, local_second-late}
use Rattle.speedate_civil.proofs.ValueLemmas.{local_second-early}
use Rattle.speedate_civil.proofs.datetime.DateTime.timestamp.Goals as goal

-- without an offset none is attached
leads-back : (value : DateAndTime) → IsDateAndTime value → value.time.offset ≡ None
    → date_time_timestamp_answer TimestampUnit.Second None value.time.microsecond
    (local_second value) ≡ Ok value
leads-back value valid none = search (rules, date_time_timestamp-leads_back)

pub overflow_add-result : goal.overflow_add-result
overflow_add-result c =
    let value = c.args.self.now in
    let valid = is_date_and_time value in
    omega (
      arith,
      ints,
      local_second-late (date_and_time value) valid,
      local_second-early (date_and_time value) valid,
      c.timestamp.ensures.second,
      c.total_seconds.ensures.seconds,
      c.from.ensures,
    )

pub returns-clause-second : goal.returns-clause-second
returns-clause-second c =
    let value = c.args.self.now in
    let valid = is_date_and_time value in
    omega (
      arith,
      ints,
      local_second-late (date_and_time value) valid,
      local_second-early (date_and_time value) valid,
      c.timestamp.ensures.second,
      c.total_seconds.ensures.seconds,
      c.from.ensures,
    )

pub returns-clause-leads_back : goal.returns-clause-leads_back
returns-clause-leads_back c none =
    let value = date_and_time c.args.self.now in
    ap (date_time_timestamp_answer TimestampUnit.Second None value.time.microsecond)
    (returns-clause-second c)
    ∙ leads-back value (is_date_and_time c.args.self.now) none

pub returns-clause-least : goal.returns-clause-least
returns-clause-least c =
    let value = c.args.self.now in
    subst (λ (second : ℤ). first_second ≤ℤ second) (sym (returns-clause-second c))
    (local_second-late (date_and_time value) (is_date_and_time value))

pub returns-clause-largest : goal.returns-clause-largest
returns-clause-largest c =
    let value = c.args.self.now in
    subst (λ (second : ℤ). second ≤ℤ last_second) (sym (returns-clause-second c))
    (local_second-early (date_and_time value) (is_date_and_time value))
