use Rattle.std.proofs.Common.{◌∙◌, ap, Ok, ◌+◌, length-drop, rules}
use Rattle.std.proofs.lemmas.Result.{err_from_is_err_and}
use Rattle.speedate_civil.specs.Time.{TimeOfDay, clock_parts}
use Rattle.speedate_civil.proofs.TimeLemmas.{after-read}
use Rattle.speedate_civil.proofs.time.Time.after_clock.Goals as goal

pub returns-in_err-tz_offset-clause-answer : goal.returns-in_err-tz_offset-clause-answer
returns-in_err-tz_offset-clause-answer g c =
    let p = err_from_is_err_and c.from_residual.result c.from_residual.ensures.1 in
    rw (p.1, p.2)
    (after-read g.E.Refusal.refusal c.args.start (clock_parts c.args.clock) c.args.text.now _
    c.in_err-tz_offset.ensures.answer)

pub returns-clause-answer : goal.returns-clause-answer
returns-clause-answer g c =
    let size = c.args.clock.size + c.in_ok-tz_offset.offset_size in
    ap (λ (time : TimeOfDay). Ok (time, size)) c.at_offset.ensures.time
    ∙ after-read g.E.Refusal.refusal c.args.start (clock_parts c.args.clock) c.args.text.now _
    c.in_ok-tz_offset.ensures.answer

pub returns-in_err-tz_offset-clause-placed : goal.returns-in_err-tz_offset-clause-placed
returns-in_err-tz_offset-clause-placed g c = search (rules, err_from_is_err_and, length-drop)
