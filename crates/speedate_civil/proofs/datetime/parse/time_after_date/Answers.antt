use Rattle.std.proofs.Common.{◌∙◌, ap, sym, ℕ, List}
use Rattle.std.proofs.lemmas.List.{take_rest}
use Rattle.speedate_base.specs.Requirement.{shifted}
use Rattle.speedate_base.proofs.RefusalLemmas.{seen-from}
use Rattle.speedate_civil.specs.Time.{time_front}
use Rattle.speedate_base.specs.Refused.{seen_as}
use Rattle.speedate_civil.proofs.datetime.parse.time_after_date.Goals as goal

pub returns-clause-answer : goal.returns-clause-answer
returns-clause-answer g c =
    rw (sym c.has_separator.ensures.value ∙ c.if-not-has_separator.false)
    (c.front_at.ensures.answer
    ∙ ap (λ (rest : List ℕ). seen_as (shifted 11 g.E.Refusal.refusal)
    (time_front c.args.behavior rest)) (take_rest c.args.bytes.now 11)
    ∙ sym (seen-from g.E.Refusal.refusal 11 _))
