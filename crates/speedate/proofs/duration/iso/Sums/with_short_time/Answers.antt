use Rattle.std.proofs.Common.{◌≡◌, ◌∙◌, ap, arith, subst, sym, ℕ, ◌-◌, ◌≤◌, List, length, length-drop, slice_index, false, drop, rules}
use Rattle.std.proofs.lemmas.List.{take_rest}
use Rattle.speedate_base.specs.Ascii.{capital_t}
use Rattle.speedate_base.specs.Refused.{from_byte}
use Rattle.speedate.specs.Duration.{iso_from}
use Rattle.speedate.specs.IsoForm.{IsoSums}
use Rattle.speedate.specs.IsoParts.{sums_parts}
use Rattle.speedate.proofs.DurationPlaceLemmas.{iso_from-time_part}
use Rattle.speedate.proofs.duration.iso.Sums.with_short_time.Goals as goal

pub returns-in-84 : goal.returns-in-84
returns-in-84 c =
    let text = c.args.text.now in
    let rest = c.with_short_components.result.1.now in
    let next = sums_parts c.with_short_components.result.0 in
    let first : slice_index text 0 ≡ capital_t = search rules in
    let none : c.args.self.is_time ≡ false = search rules in
    let within = subst (λ (after : List ℕ). length rest ≤ length after) (take_rest text 1)
    c.with_short_components.ensures.within in
    record {
      answer = iso_from-time_part (sums_parts c.args.self) next text rest c.in-84.len_at_least first
          none within
          (ap (λ (after : List ℕ). from_byte (length after - length rest) (iso_from next rest))
          (sym (take_rest text 1))
          ∙ c.with_short_components.ensures.answer
          ∙ ap (iso_from (sums_parts c.begin_time.result)) (take_rest text 1)
          ∙ ap (λ (sums : IsoSums). iso_from sums (drop 1 text))
          c.begin_time.ensures.sums);
      within = omega (arith, within, length-drop 1 text);
    }
