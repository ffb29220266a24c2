use Rattle.std.proofs.Common.{SFits, rules, w32}
use Rattle.std.proofs.lemmas.Int.{to_z-of_z}
use Rattle.speedate_c.proofs.time.part.speedate_time_parse_or_part.Goals as goal

pub returns-in-Some-clause-answer : goal.returns-in-Some-clause-answer
returns-in-Some-clause-answer c =
    let fits : SFits w32 c.parse_form.result = search rules in
    let form_fits : SFits w32 c.args.form = search rules in
    rw (← c.in-Some.ensures.choices, to_z-of_z w32 c.parse_form.result fits)
    (rw (to_z-of_z w32 c.args.form form_fits) at c.parse_form.ensures.answer)
