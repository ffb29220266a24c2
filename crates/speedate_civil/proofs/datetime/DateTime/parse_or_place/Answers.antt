use Rattle.std.proofs.Common.{◌∙◌, ap}
use Rattle.speedate_base.specs.Config.{choices}
use Rattle.speedate_civil.specs.Form.{DateTimeForm, date_time_by_form, with_length}
use Rattle.speedate_civil.proofs.LooseLemmas.{text_loosens}
use Rattle.speedate_civil.proofs.datetime.DateTime.parse_or_place.Goals as goal

pub returns-clause-loosens : goal.returns-clause-loosens
returns-clause-loosens c same value read =
    let text = c.args.bytes.now in
    let chosen = choices c.args.config.now in
    c.in_form.ensures.answer
    ∙ ap (λ (form : DateTimeForm). date_time_by_form form chosen text) same
    ∙ ap (with_length text) (text_loosens chosen.behavior text value read)
