use Rattle.std.proofs.Common.{arith}
use Rattle.std.proofs.lemmas.List.{take_rest}
use Rattle.speedate_base.proofs.BlockLemmas.{is-place}
use Rattle.speedate_base.proofs.ZeroLemmas.{zeros-run, long-capped, few-left}
use Rattle.speedate_base.proofs.numbers.digits.long_number.Goals as goal

pub returns-then-end-digits : goal.returns-then-end-digits
returns-then-end-digits c = grind (arith, zeros-run c.args.digits.now, is-place c.args.digits.now)

pub returns-then-end-zeros-gt-MOST_DIGITS : goal.returns-then-end-zeros-gt-MOST_DIGITS
returns-then-end-zeros-gt-MOST_DIGITS c =
    grind (arith, long-capped c.args.digits.now)

pub returns : goal.returns
returns c =
    grind (arith, take_rest, few-left c.args.digits.now)
