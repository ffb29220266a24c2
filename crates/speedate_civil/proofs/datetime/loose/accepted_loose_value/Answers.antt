use Rattle.std.proofs.Common.{sym, ℕ}
use Rattle.speedate_base.specs.Requirement.{fault_alone, with_size}
use Rattle.speedate_base.proofs.RefusalLemmas.{seen-read}
use Rattle.speedate_civil.specs.DateTime.{DateAndTime, date_and_time, date_time_front}
use Rattle.speedate_civil.proofs.LooseLemmas.{text_is_loose}
use Rattle.speedate_civil.proofs.datetime.loose.accepted_loose_value.Goals as goal

pub returns-in-Some-clause-front : goal.returns-in-Some-clause-front
returns-in-Some-clause-front c =
    let text = c.args.text.now in
    let front : DateAndTime × ℕ = (date_and_time c.in-Ok.value, c.in-Ok.size) in
    text_is_loose c.args.behavior text front (with_size date_and_time c.in-Some.front)
    (seen-read fault_alone (date_time_front c.args.behavior text) front
    (sym c.in-Ok.ensures.answer))
    (sym c.in-Some.ensures.front)
