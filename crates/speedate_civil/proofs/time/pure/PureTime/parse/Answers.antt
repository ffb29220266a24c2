use Rattle.std.proofs.Common.{◌∙◌, ap, ℕ, List}
use Rattle.std.proofs.lemmas.List.{take_rest}
use Rattle.speedate_base.specs.Refused.{without_place}
use Rattle.speedate_civil.specs.Time.{clock_front}
use Rattle.speedate_civil.proofs.time.pure.PureTime.parse.Goals as goal

pub returns-clause-answer : goal.returns-clause-answer
returns-clause-answer c =
    c.front_at.ensures.answer
    ∙ ap (λ (rest : List ℕ). without_place (clock_front c.args.behavior rest))
    (take_rest c.args.bytes.now c.args.place)
