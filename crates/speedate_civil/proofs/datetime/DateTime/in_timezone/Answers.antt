use Rattle.std.proofs.Common.{arith, ◌≡◌, rules, Result, Ok, Err, Option, Some, IfOk, ℤ, ◌+ℤ◌, w32, w64, SFits}
use Rattle.std.proofs.lemmas.Bool.Decides.{nat_tests}
use Rattle.std.proofs.lemmas.Int.{to_z-of_z}
use Rattle.std.proofs.lemmas.Result.{err_from_is_err_and}
use Rattle.speedate_civil.specs.Base.{ParseError}
use Rattle.speedate_base.specs.Requirement.{AllHold}
use Rattle.speedate_base.specs.Timestamp.{Instant}
use Rattle.speedate_civil.specs.DateTime.{DateAndTime, utc_second, IsShownAt, date_and_time}
use Rattle.speedate_civil.specs.DateTime.{DateTime}
use Rattle.speedate_civil.specs.Instant.{move_table}
use Rattle.speedate_civil.proofs.OffsetMoveLemmas.{second-moved, instant-kept}
use Rattle.speedate_base.proofs.RefusalLemmas.{first_refusal_or-next, refusal-all}
use Rattle.speedate_civil.proofs.datetime.DateTime.in_timezone.Goals as goal

-- the offset can be had, and the second is the one that its clock shows
found : (c : goal.After-from_unix_time)
    → AllHold (move_table c.args.tz_offset c.args.self.now.time.tz_offset) ×
    (c.move_second.result ≡ utc_second (date_and_time c.args.self.now) +ℤ c.args.tz_offset)
found c =
    let local : SFits w64 c.timestamp.result = search rules in
    let shift : SFits w32 c.in_ok-shift.shift = search rules in
    let offset : SFits w32 c.args.tz_offset = search rules in
    let sum = simp to_z-of_z at c.move_second.ensures in
    let moved = simp to_z-of_z at c.in_ok-shift.ensures.answer in
    second-moved (date_and_time c.args.self.now) c.args.tz_offset c.in_ok-shift.shift
    c.timestamp.result c.move_second.result moved c.timestamp.ensures.second sum

pub returns-in_err-shift-clause-answer : goal.returns-in_err-shift-clause-answer
returns-in_err-shift-clause-answer c =
    search (rules, to_z-of_z, err_from_is_err_and, first_refusal_or-next)

pub move_second-requires-clause-least : goal.move_second-requires-clause-least
move_second-requires-clause-least c = grind (arith, nat_tests, to_z-of_z)

pub move_second-requires-clause-largest : goal.move_second-requires-clause-largest
move_second-requires-clause-largest c = grind (arith, nat_tests, to_z-of_z)

pub returns-clause-answer : goal.returns-clause-answer
returns-clause-answer c = search (rules, to_z-of_z, refusal-all, found)

-- what is shown at an offset has it, and the microsecond of the instant
offset-of : (result : Result DateTime ParseError) (offset : Option ℤ) (instant : Instant)
    → IfOk result (λ moved. IsShownAt offset instant (date_and_time moved))
    → IfOk result (λ moved. moved.time.tz_offset ≡ offset)
offset-of (Ok moved) offset instant shown = shown.attached
offset-of (Err fault) offset instant shown = tt

microsecond-of : (result : Result DateTime ParseError) (offset : Option ℤ) (instant : Instant)
    → IfOk result (λ moved. IsShownAt offset instant (date_and_time moved))
    → IfOk result (λ moved. moved.time.microsecond ≡ instant.microsecond)
microsecond-of (Ok moved) offset instant shown = shown.microsecond
microsecond-of (Err fault) offset instant shown = tt

pub returns-clause-offset : goal.returns-clause-offset
returns-clause-offset c =
    let given : SFits w32 c.args.tz_offset = search rules in
    let shown = simp to_z-of_z at c.from_unix_time.ensures.shown in
    offset-of c.from_unix_time.result (Some c.args.tz_offset) _ shown

pub returns-clause-microsecond : goal.returns-clause-microsecond
returns-clause-microsecond c =
    microsecond-of c.from_unix_time.result _ _ c.from_unix_time.ensures.shown

-- what an answer means
kept : (result : Result DateTime ParseError) (value : DateAndTime) (offset : ℤ) (instant : Instant)
    → instant.second ≡ utc_second value +ℤ offset
    → IfOk result (λ moved. IsShownAt (Some offset) instant (date_and_time moved))
    → IfOk result (λ moved. utc_second (date_and_time moved) ≡ utc_second value)
kept result value offset instant sum shown = grind (arith, nat_tests, instant-kept)

pub returns-clause-instant : goal.returns-clause-instant
returns-clause-instant c =
    let value = date_and_time c.args.self.now in
    let offset = c.args.tz_offset in
    let second : SFits w64 c.move_second.result = search rules in
    let given : SFits w32 offset = search rules in
    let shown = simp to_z-of_z at c.from_unix_time.ensures.shown in
    kept c.from_unix_time.result value offset
    (record { second = c.move_second.result; microsecond = value.time.microsecond })
    (found c).1 shown
