use Rattle.std.proofs.Common.{rules, ◌∙◌, add-zero, ap, ap₂, sym, ℕ, ◌+◌, List, Err}
use Rattle.std.proofs.lemmas.List.{take_rest}
use Rattle.std.proofs.lemmas.Result.{err_from_is_err_and}
use Rattle.speedate_base.specs.Requirement.{shifted}
use Rattle.speedate_base.proofs.RefusalLemmas.{first_refusal_or-next, shifted-shifted}
use Rattle.speedate_civil.specs.Base.{ParseError}
use Rattle.speedate_base.specs.Refused.{seen_as}
use Rattle.speedate.specs.ClockForm.{after_hours}
use Rattle.speedate.proofs.ClockFormLemmas.{clock-many, clock-rest, clock_form-seen}
use Rattle.speedate.proofs.duration.unsigned.UnsignedDuration.from_clock.Goals as goal

pub returns-in_err-end : goal.returns-in_err-end
returns-in_err-end g c = search (rules, err_from_is_err_and, first_refusal_or-next, clock_form-seen)

pub returns-then-hours-gt-HOURS_MAX-clause-answer
    : goal.returns-then-hours-gt-HOURS_MAX-clause-answer
returns-then-hours-gt-HOURS_MAX-clause-answer g c =
    ap Err (c.refuse_at.ensures.refusal
    ∙ ap (g.E.Refusal.refusal ParseError.DurationHourValueTooLarge) (sym (add-zero c.args.start)))
    ∙ clock-many (shifted c.args.start g.E.Refusal.refusal) c.args.behavior c.args.bytes.now
    c.in_ok-end.end c.args.hours.value c.in_ok-end.ensures.answer c.requires.value
    c.if-hours-gt-HOURS_MAX.true

pub returns-clause-answer : goal.returns-clause-answer
returns-clause-answer g c =
    let refuse = g.E.Refusal.refusal in
    let start = c.args.start in
    let text = c.args.bytes.now in
    let end = c.in_ok-end.end in
    let after = λ (refuse : ParseError → ℕ → _) (rest : List ℕ).
    seen_as refuse (after_hours c.args.behavior c.args.hours.value rest) in
    c.after_hours.ensures.answer
    ∙ ap₂ after (sym (shifted-shifted start (end + 1) refuse)) (take_rest text (end + 1))
    ∙ clock-rest (shifted start refuse) c.args.behavior text end c.args.hours.value
    c.in_ok-end.ensures.answer c.requires.value c.if-hours-gt-HOURS_MAX.false
