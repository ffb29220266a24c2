use Rattle.std.proofs.Common.{◌≡◌, ◌∙◌, ℕ, eqb, ltb, not, cond, List, [], ◌∷◌, map, length, replicate, refl, arith, rules, Fits, w8}
use Rattle.std.specs.List.{prefix_len}
use Rattle.std.proofs.lemmas.Bool.Decides.{nat_tests}
use Rattle.std.proofs.lemmas.List.{length-map}
use Rattle.std.proofs.lemmas.Simd.{zip2_splat, tops_compared, length-zip2}
use lib.Lanes.{Each1, zip2, sel_l}
use Rattle.speedate_base.specs.Digits.{fit_length}
use Rattle.speedate_base.proofs.PatternLemmas.{less, lowest_bit}
use Rattle.speedate_base.proofs.numbers.lanes.fit_length.Goals as goal

-- how far above the pattern's byte a lane may lie: a digit lies up to nine above `0`, any other
-- byte is the pattern's own
abbrev largest : ℕ → ℕ
largest form = cond (eqb form 48) 9 0

-- how far a lane lies above the pattern's byte tells whether it is as the pattern has it
run : (forms lanes : List ℕ) → Each1 (Fits w8) forms → Each1 (Fits w8) lanes
    → prefix_len not (zip2 ltb (map largest forms) (zip2 less lanes forms)) ≡ fit_length forms lanes
run [] [] small bytes = refl
run [] (byte ∷ bytes) small lanes = refl
run (form ∷ forms) [] small lanes = refl
run (form ∷ forms) (byte ∷ bytes) small lanes =
    grind (arith, nat_tests, small.0.fits, lanes.0.fits, run forms bytes small.1 lanes.1)

selected : (forms : List ℕ) (n : ℕ) → length forms ≡ n
    → sel_l (map (λ (form : ℕ). eqb form 48) forms) (replicate n 9) (replicate n 0)
    ≡ map largest forms
selected [] n long = refl
selected (form ∷ forms) n long = search (rules, selected forms)

pub returns : goal.returns
returns c =
    let forms = c.args.pattern in
    let lanes = c.args.lanes in
    let long = c.fits-pattern.0 in
    let differences : List ℕ = zip2 less lanes forms in
    let compares : length (zip2 ltb (map largest forms) differences) ≡ 8 =
    grind (
      arith,
      length-zip2 ltb (map largest forms) differences,
      length-map forms largest,
      length-zip2 less lanes forms,
    ) in
    record {
      count = rw (
        c.min.ensures,
        tops_compared w8 eqb forms (replicate 8 48),
        zip2_splat eqb forms 8 48 long,
        selected forms 8 long,
        tops_compared w8 ltb (map largest forms) differences,
      )
          (lowest_bit (zip2 ltb (map largest forms) differences) 8 compares (omega arith)
          ∙ run forms lanes c.fits-pattern.1 c.fits-lanes.1);
    }
