use Rattle.std.proofs.Common.{rules, ◌+◌, ◌≤◌, length, sym, arith}
use Rattle.std.proofs.lemmas.Bool.Decides.{nat_tests}
use Rattle.std.proofs.lemmas.List.{length-take-le, take_all}
use Rattle.std.proofs.lemmas.Result.{err_from_is_err_and}
use Rattle.speedate_base.proofs.DigitRunLemmas.{run-front, run-on, digits_value-fits, list_all-more}
use Rattle.speedate_base.proofs.BlockLemmas.{block-all, block-ends, block-more, is_number, is-place}
use Rattle.speedate_base.proofs.BlockLemmas.{from-number, from-place}
use Rattle.speedate_base.proofs.numbers.digits.number_by_eights.Goals as goal

pub returns-in_err-value : goal.returns-in_err-value
returns-in_err-value c =
    search (rules, err_from_is_err_and, from-place, run-front, length-take-le, is-place)

pub loop-place-init : goal.loop-place-init
loop-place-init c = grind (arith, from-number, digits_value-fits, length-take-le)

pub returns-then-count-lt-LANES : goal.returns-then-count-lt-LANES
returns-then-count-lt-LANES c =
    let digits = c.args.digits.now in
    let place = c.loop-place.place in
    let within : place + 8 ≤ length digits = omega arith in
    let ends = block-ends digits place _ within c.digits_in_front-count.ensures.count
    c.if-count-lt-LANES.true in
    let run = run-on digits place c.loop-place.invariant.within c.loop-place.invariant.digits in
    record { answer = sym (is-place digits _ _ (omega (arith, run, ends)) (omega arith)) }

pub loop-place-preserved : goal.loop-place-preserved
loop-place-preserved c = grind (arith, nat_tests, list_all-more, block-all, block-more)

pub returns : goal.returns
returns c = grind (arith, take_all, is_number)
