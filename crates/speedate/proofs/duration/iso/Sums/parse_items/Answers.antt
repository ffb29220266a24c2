use Rattle.std.proofs.Common.{◌≡◌, ◌∙◌, ap, subst, arith, ℕ, ◌+◌, ◌-◌, ◌<◌, length, length-drop, false, Err, rules}
use Rattle.std.proofs.lemmas.Bool.Decides.{nat_tests}
use Rattle.std.proofs.lemmas.List.{take_rest}
use Rattle.std.proofs.lemmas.Result.{err_from_is_err_and}
use Rattle.speedate_base.specs.Requirement.{shifted}
use Rattle.speedate.specs.IsoParts.{sums_parts}
use Rattle.speedate.proofs.DurationPlaceLemmas.{iso_from-next, iso_from-refused, iso_from-short}
use Rattle.speedate.proofs.DurationPlaceLemmas.{iso_from-sum}
use Rattle.speedate.proofs.duration.iso.Sums.parse_items.Goals as goal

pub returns-in_err-next : goal.returns-in_err-next
returns-in_err-next g c =
    let refuse = g.E.Refusal.refusal in
    let end = c.args.end in
    let rest = c.loop-rest.rest.now in
    let some : 0 < length rest =
    grind (arith, nat_tests, c.loop-rest-test.true, c.is_empty.ensures) in
    let whole : end - length rest + length rest ≡ end = omega (arith, c.loop-rest.invariant.1) in
    let p = err_from_is_err_and c.from_residual.result c.from_residual.ensures.1 in
    rw (p.1, p.2) (record {
      answer = iso_from-refused (shifted (end - length rest) refuse) (sums_parts c.loop-rest.sums)
          rest _ some c.in_err-next.ensures.item
          ∙ c.loop-rest.invariant.0;
      placed = subst (λ (size : ℕ). g.E.Refusal.lies_within size c.in_err-next.field-0.0) whole
          c.in_err-next.ensures.placed;
    })

pub loop-rest-preserved : goal.loop-rest-preserved
loop-rest-preserved g c = search (rules, iso_from-next, length-drop, take_rest)

pub returns-then-not-sums : goal.returns-then-not-sums
returns-then-not-sums g c =
    let refuse = g.E.Refusal.refusal in
    let end = c.args.end in
    let rest = c.loop-rest.rest.now in
    let none : length rest ≡ 0 =
    grind (arith, nat_tests, c.loop-rest-test.false, c.is_empty.ensures) in
    let no_component : c.loop-rest.sums.has_component ≡ false = search rules in
    record {
      answer = ap Err c.refuse_at.ensures.refusal
          ∙ iso_from-short refuse (sums_parts c.loop-rest.sums) end rest none no_component
          ∙ c.loop-rest.invariant.0;
      placed = c.refuse_at.ensures.within end (omega arith);
    }

pub returns : goal.returns
returns g c = search (rules, iso_from-sum)
