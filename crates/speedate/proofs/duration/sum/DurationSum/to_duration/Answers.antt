use Rattle.std.proofs.Common.{ap, arith, rules, ◌∙◌, ◌≡◌, ◌+ℤ◌, ◌*ℤ◌, pos, negsuc, ℤ, SFits}
use mir.Syntax.{w128}
use Rattle.std.specs.Int.{int_div_euclid, int_rem_euclid}
use Rattle.std.proofs.lemmas.Int.{ints, to_z-of_z}
use Rattle.speedate.specs.Duration.{amount_answer}
use Rattle.speedate.proofs.duration.sum.DurationSum.to_duration.Goals as goal

-- seconds that are carried mean the same
carried : (seconds second microseconds carry rest : ℤ) → second ≡ seconds +ℤ carry
    → microseconds ≡ carry *ℤ pos 1000000 +ℤ rest
    → pos 1000000 *ℤ second +ℤ rest ≡ pos 1000000 *ℤ seconds +ℤ microseconds
carried seconds second microseconds carry rest is carries = omega (arith, ints)

-- microseconds are whole seconds, rounded down, and the rest
parted : (microseconds : ℤ)
    → microseconds
    ≡ int_div_euclid microseconds (pos 1000000) *ℤ pos 1000000
    +ℤ int_rem_euclid microseconds (pos 1000000)
parted (pos size) = omega (arith, ints)
parted (negsuc below) = omega (arith, ints)

pub returns : goal.returns
returns c =
    let sum = c.args.self in
    let amount_fits : SFits w128 c.joined-microseconds.result = search rules in
    let seconds_fit : SFits w128 sum.seconds = search rules in
    let second_fits : SFits w128 c.in-Some.second = search rules in
    let rest_fits : SFits w128 c.rem_euclid.result = search rules in
    let carry_fits : SFits w128 c.div_euclid-carried.result = search rules in
    let microseconds_fit : SFits w128 sum.microseconds = search rules in
    let carry = simp to_z-of_z at c.div_euclid-carried.ensures in
    let rest = simp to_z-of_z at c.rem_euclid.ensures.value in
    let amount = simp to_z-of_z at c.joined-microseconds.ensures.microsecond in
    let second = simp to_z-of_z at c.in-Some.ensures in
    let answer = simp to_z-of_z at c.from_signed_microseconds.ensures.answer in
    let whole = carried sum.seconds c.in-Some.second sum.microseconds c.div_euclid-carried.result
    c.rem_euclid.result second.1
    (rw (carry, rest) (parted sum.microseconds)) in
    record { answer = answer ∙ ap amount_answer (amount ∙ whole) }
