use Rattle.std.proofs.Common.{◌∙◌, ap, sym, ℕ, List, drop, Ok}
use Rattle.std.proofs.lemmas.List.{take_rest}
use Rattle.speedate_base.specs.Requirement.{first_refusal_or, shifted}
use Rattle.speedate_base.proofs.RefusalLemmas.{first_refusal_or-moved}
use Rattle.speedate_civil.specs.Strict.{strict_time}
use Rattle.speedate_civil.proofs.datetime.parse.require_strict.Goals as goal

pub returns-clause-answer : goal.returns-clause-answer
returns-clause-answer g c =
    let refuse = g.E.Refusal.refusal in
    let time = λ (text : List ℕ). first_refusal_or (shifted 11 refuse) (strict_time text)
    (Ok tt) in
    rw (sym c.has_letter_t.ensures.value ∙ c.if-not-has_letter_t.false)
    (c.require_strict.ensures.answer ∙ ap time (take_rest c.args.text.now 11)
    ∙ sym (first_refusal_or-moved refuse 11 (strict_time (drop 11 c.args.text.now)) (Ok tt)))
