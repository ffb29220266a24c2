use Rattle.std.proofs.Common.{◌≡◌, ℕ, zero, suc, Bool, ltb, not, List, [], ◌∷◌, length, replicate, refl, arith, Fits, w8}
use Rattle.std.specs.Char.{is_ascii_digit}
use Rattle.std.specs.List.{prefix_len}
use Rattle.std.proofs.lemmas.Bool.Decides.{nat_tests}
use Rattle.std.proofs.lemmas.Simd.{tops_compared, length-zip2}
use lib.Lanes.{Each1, zip2}
use Rattle.speedate_base.proofs.PatternLemmas.{less, lowest_bit_set}
use Rattle.speedate_base.proofs.numbers.lanes.digits_in_sixteen.Goals as goal

-- up to the first lane that lies more than nine above `0` all are digits
run : (n : ℕ) (lanes : List ℕ) → length lanes ≡ n → Each1 (Fits w8) lanes
    → prefix_len not (zip2 ltb (replicate n 9) (zip2 less lanes (replicate n 48)))
    ≡ prefix_len is_ascii_digit lanes
run zero [] long small = refl
run zero (byte ∷ bytes) long small = absurd (omega arith)
run (suc n) [] long small = absurd (omega arith)
run (suc n) (byte ∷ bytes) long small =
    grind (arith, nat_tests, small.0.fits, run n bytes (omega arith) small.1)

pub returns : goal.returns
returns c =
    let lanes = c.args.lanes in
    let differences : List ℕ = zip2 less lanes (replicate 16 48) in
    let wide : length differences ≡ 16 =
    omega (arith, length-zip2 less lanes (replicate 16 48) c.fits-lanes.0, c.fits-lanes.0) in
    let tests : List Bool = zip2 ltb (replicate 16 9) differences in
    let many : length tests ≡ 16 = length-zip2 ltb (replicate 16 9) differences (omega arith) in
    record {
      count = rw (c.then_some.ensures, tops_compared w8 ltb (replicate 16 9) differences)
          (rw (run 16 lanes c.fits-lanes.0 c.fits-lanes.1) at
          (lowest_bit_set tests 16 many (omega arith)));
    }
