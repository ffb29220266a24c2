use Rattle.std.proofs.Common.{◌∙◌, ap, sym, Err, arith}
use Rattle.std.proofs.lemmas.Grind.{common_steps}
use Rattle.speedate_base.specs.Requirement.{shifted}
use Rattle.speedate_civil.proofs.ClockFrontLemmas.{no-minute}
use Rattle.speedate_civil.proofs.time.pure.PureTime.front_at.Goals as goal

pub returns-in_default-clause-answer : goal.returns-in_default-clause-answer
returns-in_default-clause-answer g c =
    let refuse = shifted c.args.start g.E.Refusal.refusal in
    let long = c.if-text-lt5.false in
    let loaded = c.eight_bytes-front.ensures.bytes in
    let counted = c.fit_length-fits.ensures.count in
    let none = no-minute refuse c.args.behavior c.args.text.now _ _ long loaded counted in
    ap Err c.refuse_at-in_default.ensures.refusal ∙ sym (none (omega arith) c.if-fits-lt5.true)

pub returns-in-2-clause-answer : goal.returns-in-2-clause-answer
returns-in-2-clause-answer g c = grind (arith, common_steps)

pub returns-in-0-clause-answer : goal.returns-in-0-clause-answer
returns-in-0-clause-answer g c = grind (arith, common_steps)
