-- Bytes that lie between those of two texts, by how far they lie above the lowest.
use Rattle.std.proofs.Common.{◌≡◌, ◌∙◌, ℕ, zero, suc, ◌%◌, ◌≤◌, ◌&&◌, ltb, nat_eq, nat_le, not, Bool, true, List, [], ◌∷◌, length, refl, arith, rules, leb-true, Fits, w8}
use Rattle.std.specs.List.{list_all}
use Rattle.std.proofs.lemmas.Bool.{and_parts}
use Rattle.std.proofs.lemmas.Bool.Decides.{nat_tests}
use Rattle.std.proofs.lemmas.Simd.{mask_l-mod, length-zip2}
use lib.Lanes.{Each1, mask_l, zip2}
use Rattle.speedate_base.specs.Digits.{are_at_most}
use Rattle.speedate_base.proofs.PatternLemmas.{less, no_bits}

-- a byte lies no further above the lowest than the highest does if and only if it lies between
-- them
between : (lowest byte highest : ℕ) → lowest ≤ highest → highest ≤ 255 → byte ≤ 255
    → not (ltb (less highest lowest) (less byte lowest))
    ≡ (nat_le lowest byte && nat_le byte highest)
between lowest byte highest ordered small few = grind (arith, nat_tests)

swapped : (a b c d : Bool) → ((a && b) && (c && d)) ≡ ((a && c) && (b && d))
swapped a b c d = search rules

run : (n : ℕ) (lowest lanes highest : List ℕ) → length lowest ≡ n → length lanes ≡ n
    → length highest ≡ n → Each1 (Fits w8) lanes → Each1 (Fits w8) highest
    → are_at_most lowest highest ≡ true
    → list_all not (zip2 ltb (zip2 less highest lowest) (zip2 less lanes lowest))
    ≡ (are_at_most lowest lanes && are_at_most lanes highest)
run zero [] [] [] one two three small few ordered = refl
run (suc n) (low ∷ lows) (byte ∷ bytes) (high ∷ highs) one two three small few ordered =
    let both = and_parts (nat_le low high) (are_at_most lows highs) ordered in
    let first = between low byte high (leb-true low high both.0) (omega (arith, few.0.fits))
    (omega (arith, small.0.fits)) in
    let rest = run n lows bytes highs (omega arith) (omega arith) (omega arith) small.1 few.1
    both.1 in
    rw (first, rest) (swapped (nat_le low byte) (nat_le byte high) _ _)
run n lowest lanes highest one two three small few ordered = absurd (omega arith)

-- for each lane, whether its byte lies too far above the lowest
abbrev pub outside : List ℕ → List ℕ → List ℕ → List Bool
outside lowest lanes highest = zip2 ltb (zip2 less highest lowest) (zip2 less lanes lowest)

-- none does if and only if all lie between
pub between-lanes : (n : ℕ) (lowest lanes highest : List ℕ) → n ≤ 64 → length lowest ≡ n
    → length lanes ≡ n → length highest ≡ n → Each1 (Fits w8) lanes → Each1 (Fits w8) highest
    → are_at_most lowest highest ≡ true
    → nat_eq (mask_l (outside lowest lanes highest) % 18446744073709551616) 0
    ≡ (are_at_most lowest lanes && are_at_most lanes highest)
between-lanes n lowest lanes highest most one two three small few ordered =
    let above : List ℕ = zip2 less lanes lowest in
    let room : List ℕ = zip2 less highest lowest in
    let tests : List Bool = outside lowest lanes highest in
    let many : length tests ≤ 64 = omega (
      arith,
      length-zip2 ltb room above,
      length-zip2 less lanes lowest,
      length-zip2 less highest lowest,
    ) in
    rw (mask_l-mod tests 64 many)
    (no_bits tests ∙ run n lowest lanes highest one two three small few ordered)
