use Rattle.std.proofs.Common.{rules, arith}
use Rattle.std.proofs.lemmas.Bool.Decides.{nat_tests}
use Rattle.std.proofs.lemmas.List.{take_rest, length-drop}
use Rattle.speedate_base.proofs.RoundingLemmas.{front_all, rest_all, block-taken}
use Rattle.speedate_base.proofs.util.rounding.rounded_by_eights.Goals as goal

pub last_digits_taken-twice-requires-clause-digits
    : goal.last_digits_taken-twice-requires-clause-digits
last_digits_taken-twice-requires-clause-digits c = grind (arith, take_rest, rest_all)

pub eight_digits-value-requires : goal.eight_digits-value-requires
eight_digits-value-requires c = search (rules, front_all, rest_all)

pub loop-place-init : goal.loop-place-init
loop-place-init c = grind (arith, take_rest, length-drop)

pub loop-place-preserved : goal.loop-place-preserved
loop-place-preserved c = grind (arith, block-taken)

pub digits_taken-twice-requires-clause-value : goal.digits_taken-twice-requires-clause-value
digits_taken-twice-requires-clause-value c = c.eight_digits-value.ensures.small

pub digits_taken-twice-requires-clause-rest : goal.digits_taken-twice-requires-clause-rest
digits_taken-twice-requires-clause-rest c = c.loop-place.invariant.within

pub digits_taken-twice-requires-clause-unit : goal.digits_taken-twice-requires-clause-unit
digits_taken-twice-requires-clause-unit c = c.requires.unit

pub returns-clause-twice : goal.returns-clause-twice
returns-clause-twice c = grind (arith, nat_tests)

pub returns-clause-within : goal.returns-clause-within
returns-clause-within c = c.loop-place.invariant.within
