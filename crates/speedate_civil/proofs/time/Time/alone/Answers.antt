use Rattle.std.proofs.Common.{◌∙◌, ap, sym, Err}
use Rattle.speedate_base.proofs.RefusalLemmas.{seen_longer, seen_stopped, seen_whole}
use Rattle.speedate_base.specs.Requirement.{result_map, with_size}
use Rattle.speedate_civil.specs.Base.{ParseError}
use Rattle.speedate_civil.specs.Time.{TimeOfDay, end_fault, time_front, time_of_day}
use Rattle.speedate_civil.proofs.time.Time.alone.Goals as goal

pub returns-then-size-bytes-clause-answer : goal.returns-then-size-bytes-clause-answer
returns-then-size-bytes-clause-answer g c behavior read =
    seen_whole g.E.Refusal.refusal (λ (read : TimeOfDay). end_fault read.offset)
    c.args.bytes.now (time_of_day c.in-Ok.time) c.in-Ok.size
    (time_front behavior c.args.bytes.now) c.if-size-bytes.true
    (sym (ap (result_map (with_size time_of_day)) c.in-Ok.is) ∙ read)

pub returns-else-size-bytes-clause-answer : goal.returns-else-size-bytes-clause-answer
returns-else-size-bytes-clause-answer g c behavior read =
    ap Err (c.refuse_at.ensures.refusal
    ∙ ap (λ (fault : ParseError). g.E.Refusal.refusal fault c.in-Ok.size)
    c.end_fault.ensures.fault)
    ∙ seen_longer g.E.Refusal.refusal (λ (read : TimeOfDay). end_fault read.offset)
    c.args.bytes.now (time_of_day c.in-Ok.time) c.in-Ok.size
    (time_front behavior c.args.bytes.now) c.if-size-bytes.false
    (sym (ap (result_map (with_size time_of_day)) c.in-Ok.is) ∙ read)

pub returns-in-Err-clause-answer : goal.returns-in-Err-clause-answer
returns-in-Err-clause-answer g c behavior read =
    seen_stopped g.E.Refusal.refusal _ (time_front behavior c.args.bytes.now)
    c.in-Err.refusal (sym (ap (result_map (with_size time_of_day)) c.in-Err.is) ∙ read)
