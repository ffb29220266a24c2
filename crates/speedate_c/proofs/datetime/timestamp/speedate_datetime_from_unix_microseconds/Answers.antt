use Rattle.std.proofs.Common.{◌≡◌, ◌∙◌, ℤ, SFits, pos, IfOk, Result, Ok, Some, ap, arith, rules, subst, sym, w64}
use Rattle.std.proofs.lemmas.Int.{ints, to_z-of_z}
use Rattle.speedate.specs.Base.{ParseError, TimestampUnit}
use Rattle.speedate.specs.DateTime.{DateAndTime, date_and_time, date_time_timestamp_answer}
use Rattle.speedate.specs.DateTime.{local_microsecond, meant_microsecond, utc_microsecond}
use Rattle.speedate.specs.Requirement.{result_map}
use Rattle.speedate_c.proofs.datetime.timestamp.speedate_datetime_from_unix_microseconds.Goals as goal

in-utc : (microseconds : ℤ)
    → IfOk (date_time_timestamp_answer TimestampUnit.Microsecond (Some (pos 0)) 0 microseconds)
    (λ value. value.time.offset ≡ Some (pos 0))
in-utc microseconds = search rules

-- a date-time of microseconds in UTC, whose clock shows them, has them in UTC
leads-back : (microseconds : ℤ) (value : DateAndTime)
    → Ok value
    ≡ date_time_timestamp_answer TimestampUnit.Microsecond (Some (pos 0)) 0 microseconds
    → local_microsecond value ≡ meant_microsecond TimestampUnit.Microsecond 0 microseconds
    → utc_microsecond value ≡ microseconds
leads-back microseconds value is shown =
    let offset : value.time.offset ≡ Some (pos 0) =
    subst (λ (answer : Result DateAndTime ParseError). IfOk answer
    (λ value. value.time.offset ≡ Some (pos 0))) (sym is) (in-utc microseconds) in
    rw offset (omega (arith, ints))

pub returns-in-Ok-clause-leads_back : goal.returns-in-Ok-clause-leads_back
returns-in-Ok-clause-leads_back c =
    let fits : SFits w64 c.args.microseconds = search rules in
    let same = to_z-of_z w64 c.args.microseconds fits in
    λ done. ap (result_map utc_microsecond) c.from_value.ensures.leads_back
    ∙ ap Ok (leads-back c.args.microseconds (date_and_time c.in-Ok.value)
    (rw same at c.in-Ok.ensures.answer) (rw same at c.in-Ok.ensures.instant))
