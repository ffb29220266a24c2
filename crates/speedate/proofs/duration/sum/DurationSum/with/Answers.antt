use Rattle.std.proofs.Common.{arith, rules, pos, ◌∙◌, ◌≡◌, ◌+ℤ◌, ◌*ℤ◌, ap, ℤ, SFits, w64, w32}
use mir.Syntax.{w128}
use Rattle.std.proofs.lemmas.Int.{ints, to_z-of_z}
use Rattle.speedate.specs.Duration.{duration_numbers, signed_amount}
use Rattle.speedate.specs.DurationNumbers.{signed_seconds, signed_microsecond}
use Rattle.speedate.proofs.DurationLemmas.{signed_amount-joined}
use Rattle.speedate.proofs.duration.sum.DurationSum.with.Goals as goal

-- the sum and one more duration
more : (seconds microseconds second microsecond amount next further : ℤ)
    → amount ≡ pos 1000000 *ℤ second +ℤ microsecond
    → next ≡ seconds +ℤ second → further ≡ microseconds +ℤ microsecond
    → pos 1000000 *ℤ next +ℤ further ≡ (pos 1000000 *ℤ seconds +ℤ microseconds) +ℤ amount
more seconds microseconds second microsecond amount next further is one two = omega (arith, ints)

pub returns : goal.returns
returns c =
    let sum = c.args.self in
    let numbers = duration_numbers c.args.duration.now in
    let second_fits : SFits w64 c.signed_total_seconds.result = search rules in
    let microsecond_fits : SFits w32 c.signed_microseconds.result = search rules in
    let from_fits : SFits w64 c.from.result = search rules in
    let seconds_fit : SFits w128 sum.seconds = search rules in
    let microseconds_fit : SFits w128 sum.microseconds = search rules in
    let added_fits : SFits w128 c.added.result = search rules in
    let also_fits : SFits w128 c.added-2.result = search rules in
    let next = (simp to_z-of_z at c.added.ensures.sum)
    ∙ ap (λ (number : ℤ). sum.seconds +ℤ number) c.signed_total_seconds.ensures.second in
    let further = (simp to_z-of_z at c.added-2.ensures.sum)
    ∙ ap (λ (number : ℤ). sum.microseconds +ℤ number)
    ((simp to_z-of_z at c.from.ensures) ∙ c.signed_microseconds.ensures.microsecond) in
    record {
      sum = rw (to_z-of_z w128 _ added_fits, to_z-of_z w128 _ also_fits)
          (more sum.seconds sum.microseconds (signed_seconds numbers) (signed_microsecond numbers)
          (signed_amount numbers) _ _ (signed_amount-joined numbers) next further);
      seconds = omega (arith, ints);
      microseconds = omega (arith, ints);
    }
