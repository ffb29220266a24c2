use Rattle.std.proofs.Common.{◌∙◌, ap, sym, ℕ, pos, ◌+ℤ◌, ◌-ℤ◌, unwrap_or, Ok, Err, w32, SFits, rules, arith}
use Rattle.std.proofs.lemmas.Int.{ints, to_z-of_z}
use Rattle.std.proofs.lemmas.Result.{err_from_is_err_and}
use Rattle.std.proofs.lemmas.Grind.{common_steps}
use Rattle.speedate_civil.specs.Instant.{move_table}
use Rattle.speedate_civil.specs.Time.{time_of_day}
use Rattle.speedate_civil.proofs.OffsetMoveLemmas.{clock-moved, sum-in-bits, time-after}
use Rattle.speedate_civil.proofs.OffsetMoveLemmas.{time-before, time-moved, second_of_day-kept}
use Rattle.speedate_civil.proofs.time.Time.in_timezone.Goals as goal
use Rattle.speedate_base.proofs.RefusalLemmas.{first_refusal_or-next}
use Rattle.speedate_base.specs.Requirement.{fault_alone}
use Rattle.speedate_civil.proofs.time.Time.in_timezone.Goals.{
  then-second-lt0-via-then-second-lt0,
  then-second-lt0-via-else-second-lt0+then-second,
}

pub returns-in_err-shift-clause-answer : goal.returns-in_err-shift-clause-answer
returns-in_err-shift-clause-answer c =
    let offset = c.args.tz_offset in
    let old = c.args.self.now.tz_offset in
    let given : SFits w32 offset = search rules in
    let refused = simp to_z-of_z at c.in_err-shift.ensures.answer in
    let p = err_from_is_err_and c.from_residual.result c.from_residual.ensures.1 in
    rw (p.1, p.2) (first_refusal_or-next fault_alone (move_table offset old)
    (offset -ℤ unwrap_or old (pos 0))
    (Err c.in_err-shift.field-0.0) _ refused)

pub returns-then-second-lt0-clause-answer : goal.returns-then-second-lt0-clause-answer
returns-then-second-lt0-clause-answer c =
    let time = time_of_day c.args.self.now in
    let offset = c.args.tz_offset in
    let given : SFits w32 offset = search rules in
    let moved = simp to_z-of_z at c.in_ok-shift.ensures.answer in
    let sum = sum-in-bits c.total_seconds.result c.in_ok-shift.shift (omega arith)
    c.in_ok-shift.ensures.range.1 in
    let shown = clock-moved time.offset offset c.in_ok-shift.shift (pos c.total_seconds.result) _
    moved sum in
    let is = shown.1 ∙ ap (λ (second : ℕ). (pos second -ℤ unwrap_or time.offset (pos 0)) +ℤ offset)
    c.total_seconds.ensures.seconds in
    elim c.then-second-lt0.branch [
      | then-second-lt0-via-then-second-lt0 w ↦ sym
          (time-before time offset _ shown.0 is w.if-second-lt0.true)
      | then-second-lt0-via-else-second-lt0+then-second w ↦ sym
          (time-after time offset _ shown.0 is w.if-second.true)
    ]

pub from_second-requires-clause-second : goal.from_second-requires-clause-second
from_second-requires-clause-second c = omega (arith, ints)

pub returns-clause-answer : goal.returns-clause-answer
returns-clause-answer c =
    let time = time_of_day c.args.self.now in
    let offset = c.args.tz_offset in
    let given : SFits w32 offset = search rules in
    let moved = simp to_z-of_z at c.in_ok-shift.ensures.answer in
    let sum = sum-in-bits c.total_seconds.result c.in_ok-shift.shift (omega arith)
    c.in_ok-shift.ensures.range.1 in
    let shown = clock-moved time.offset offset c.in_ok-shift.shift (pos c.total_seconds.result) _
    moved sum in
    let is = shown.1 ∙ ap (λ (second : ℕ). (pos second -ℤ unwrap_or time.offset (pos 0)) +ℤ offset)
    c.total_seconds.ensures.seconds in
    let there = simp to_z-of_z at c.from_second.ensures.time in
    ap Ok there ∙ sym (time-moved time offset _ shown.0 is c.if-second-lt0.false c.if-second.false)

pub returns-clause-instant : goal.returns-clause-instant
returns-clause-instant c =
    let time = time_of_day c.args.self.now in
    let offset = c.args.tz_offset in
    let given : SFits w32 offset = search rules in
    let moved = simp to_z-of_z at c.in_ok-shift.ensures.answer in
    let sum = sum-in-bits c.total_seconds.result c.in_ok-shift.shift (omega arith)
    c.in_ok-shift.ensures.range.1 in
    let shown = clock-moved time.offset offset c.in_ok-shift.shift (pos c.total_seconds.result) _
    moved sum in
    let is = shown.1 ∙ ap (λ (second : ℕ). (pos second -ℤ unwrap_or time.offset (pos 0)) +ℤ offset)
    c.total_seconds.ensures.seconds in
    let there = simp to_z-of_z at c.from_second.ensures.time in
    second_of_day-kept time (time_of_day c.from_second.result)
    offset _ is c.if-second-lt0.false there

pub overflow_cast-second-2 : goal.overflow_cast-second-2
overflow_cast-second-2 c = grind (arith, common_steps)
