use Rattle.std.proofs.Common.{◌≡◌, ◌+◌, ◌∷◌, ◌∙◌, ◌+ℤ◌, ap, arith, sym, ℤ, ℕ, List, drop, None, Result}
use Rattle.std.proofs.lemmas.List.{drop_more}
use Rattle.speedate.specs.Base.{ParseError}
use Rattle.speedate.specs.Duration.{signed_amount, sum_microseconds}
use Rattle.speedate.specs.DurationNumbers.{DurationNumbers}
use Rattle.speedate_c.specs.declared.duration.SpeedateDuration.{SpeedateDuration}
use Rattle.speedate_c.specs.Duration.{duration_of, sum_after}
use Rattle.speedate_c.specs.Written.{with_value}
use Rattle.speedate_c.proofs.arithmetic.sum_of.Goals as goal

-- the sum of what is left by the answer to the first
first : (sum : ℤ) (all : List SpeedateDuration) (place : ℕ) (one : SpeedateDuration)
    (answer : Result DurationNumbers ParseError) → drop place all ≡ one ∷ drop (place + 1) all
    → answer ≡ duration_of one
    → sum_after sum (drop place all)
    ≡ with_value answer None (λ numbers. sum_after (sum +ℤ signed_amount numbers)
    (drop (place + 1) all))
first sum all place one answer left is =
    let rest = drop (place + 1) all in
    ap (sum_after sum) left
    ∙ ap (λ (answer : Result DurationNumbers ParseError). with_value answer None
    (λ numbers. sum_after (sum +ℤ signed_amount numbers) rest)) (sym is)

pub loop-duration-preserved : goal.loop-duration-preserved
loop-duration-preserved c =
    let before = c.loop-duration.invariant in
    let all = c.args.durations.now in
    let place = c.loop-duration.duration-index in
    let added = c.with-sum.ensures.sum in
    record {
      sum = before.sum
          ∙ first (sum_microseconds c.loop-duration.sum) all place _ _
          (drop_more all place _ c.loop-duration-test.true) c.in-Ok.ensures.answer
          ∙ ap (λ (sum : ℤ). sum_after sum (drop (place + 1) all)) (sym added);
      seconds = omega (arith, c.with-sum.ensures.seconds, before.seconds);
      microseconds = omega (arith, c.with-sum.ensures.microseconds, before.microseconds);
    }

pub returns-in-Err : goal.returns-in-Err
returns-in-Err c =
    let before = c.loop-duration.invariant in
    let all = c.args.durations.now in
    let place = c.loop-duration.duration-index in
    let one = first (sum_microseconds c.loop-duration.sum) all place _ _
    (drop_more all place _ c.loop-duration-test.true) c.in-Err.ensures.answer in
    record { sum = sym (before.sum ∙ one) }
