use Rattle.std.proofs.Common.{◌∙◌, length, refl, sym}
use Rattle.speedate_base.proofs.RefusalLemmas.{refused_place_map}
use Rattle.speedate_base.specs.Requirement.{with_size}
use Rattle.speedate_civil.specs.Calendar.{Ymd}
use Rattle.speedate_civil.specs.Date.{date_answer, ymd}
use Rattle.speedate.proofs.column.date.text_place.Goals as goal

pub returns : goal.returns
returns c = record {
  place = c.place_of.ensures.place
      ∙ refused_place_map (with_size ymd) _ _ c.parse_or_place.ensures.answer
      ∙ sym (refused_place_map (λ (date : Ymd). (date, length c.args.line.now))
      (date_answer c.args.line.now) _ refl);
}
