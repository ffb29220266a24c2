use Rattle.std.proofs.Common.{◌∙◌, length, refl, sym}
use Rattle.speedate_base.proofs.RefusalLemmas.{refused_place_map}
use Rattle.speedate_base.specs.Requirement.{with_size}
use Rattle.speedate_civil.specs.Strict.{strict_time_answer}
use Rattle.speedate_civil.specs.Time.{TimeOfDay, time_of_day}
use Rattle.speedate.proofs.column.time.strict_place.Goals as goal

pub returns : goal.returns
returns c = record {
  place = c.place_of.ensures.place
      ∙ refused_place_map (with_size time_of_day) _ _ c.parse_or_place.ensures.answer
      ∙ sym (refused_place_map (λ (time : TimeOfDay). (time, length c.args.line.now))
      (strict_time_answer c.args.behavior c.args.line.now) _ refl);
}
