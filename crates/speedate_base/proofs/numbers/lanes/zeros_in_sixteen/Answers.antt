use Rattle.std.proofs.Common.{◌≡◌, ℕ, zero, suc, Bool, eqb, not, List, [], ◌∷◌, length, replicate, refl, arith, w8}
use Rattle.std.specs.List.{prefix_len}
use Rattle.std.proofs.lemmas.Bool.Decides.{nat_tests}
use Rattle.std.proofs.lemmas.Simd.{tops_compared, length-zip2}
use lib.Lanes.{zip2}
use Rattle.speedate_base.specs.Digits.{zeros_length}
use Rattle.speedate_base.proofs.PatternLemmas.{lowest_bit_set}
use Rattle.speedate_base.proofs.numbers.lanes.zeros_in_sixteen.Goals as goal

abbrev other : ℕ → ℕ → Bool
other a b = not (eqb a b)

-- up to the first lane that is other than `0` all are zeros
run : (n : ℕ) (lanes : List ℕ) → length lanes ≡ n
    → prefix_len not (zip2 other lanes (replicate n 48)) ≡ zeros_length lanes
run zero [] long = refl
run zero (byte ∷ bytes) long = absurd (omega arith)
run (suc n) [] long = absurd (omega arith)
run (suc n) (byte ∷ bytes) long = grind (arith, nat_tests, run n bytes (omega arith))

pub returns : goal.returns
returns c =
    let lanes = c.args.lanes in
    let tests : List Bool = zip2 other lanes (replicate 16 48) in
    let many : length tests ≡ 16 =
    omega (arith, length-zip2 other lanes (replicate 16 48) c.fits-lanes.0, c.fits-lanes.0) in
    record {
      count = rw (c.then_some.ensures, tops_compared w8 other lanes (replicate 16 48))
          (rw (run 16 lanes c.fits-lanes.0) at (lowest_bit_set tests 16 many (omega arith)));
    }
