use Rattle.std.proofs.Common.{◌∙◌, refl, sym}
use Rattle.std.proofs.lemmas.List.{take_rest}
use Rattle.speedate_civil.proofs.datetime.loose.date_and_clock.Goals as goal

pub returns-in-Ok-front_at-clause-front : goal.returns-in-Ok-front_at-clause-front
returns-in-Ok-front_at-clause-front c =
    let parted = sym c.has_separator.ensures.value ∙ c.if-not-has_separator.false in
    let timed = rw (take_rest c.args.text.now 11) at c.in-Ok-front_at.ensures.answer in
    rw (← c.in-Ok.ensures.answer, parted, ← timed) refl

pub returns-in-Err-front_at-clause-front : goal.returns-in-Err-front_at-clause-front
returns-in-Err-front_at-clause-front c =
    let parted = sym c.has_separator.ensures.value ∙ c.if-not-has_separator.false in
    let timed = rw (take_rest c.args.text.now 11) at c.in-Err-front_at.ensures.answer in
    rw (← c.in-Ok.ensures.answer, parted, ← timed) refl
