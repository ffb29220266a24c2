use Rattle.std.proofs.Common.{◌≡◌, ◌+◌, ◌*◌, take, arith}
use Rattle.std.proofs.lemmas.Grind.{common_steps}
use Rattle.std.proofs.lemmas.Bool.Decides.{nat_tests}
use Rattle.std.proofs.lemmas.List.{take_rest}
use Rattle.speedate_base.specs.Digits.{digits_value}
use Rattle.speedate_base.proofs.RoundingLemmas.{sixteen-value, sixteen-tells}
use Rattle.speedate_base.proofs.util.rounding.from_sixteen_digits.Goals as goal

pub returns-then-least-most-clause-told : goal.returns-then-least-most-clause-told
returns-then-least-most-clause-told c =
    let digits = c.args.digits.now in
    let bounds = rw (take_rest digits 16) at c.rest_bounds-smallest.ensures.bounds in
    let value : c.eight_digits-first.result * 100000000 + c.eight_digits-second.result
    ≡ digits_value (take 16 digits) =
    grind (arith, take_rest, sixteen-value digits c.requires.long) in
    let tells = sixteen-tells c.args.up c.args.unit digits _ _ _ _ _ c.requires.long
    c.requires.digits value bounds c.sixteen_taken-least.ensures.twice
    c.sixteen_taken-most.ensures.twice in
    grind (arith, nat_tests, tells.0, tells.1 c.if-least-most.true)

pub returns-else-least-most-clause-told : goal.returns-else-least-most-clause-told
returns-else-least-most-clause-told c =
    grind (arith, common_steps, take_rest, sixteen-value, sixteen-tells)
