use Rattle.std.proofs.Common.{◌≡◌, ◌∙◌, refl, ℕ, zero, suc, ◌+◌, ◌-◌, ◌*◌, ◌/◌, ◌%◌, ◌^◌, ◌<◌, ◌≤◌, get_or, List, [], ◌∷◌, length, arith, rules, Fits, w8, w64, bit_and}
use Rattle.std.specs.Int.{from_le_bytes, to_le_bytes}
use Rattle.std.proofs.lemmas.Bool.Decides.{nat_tests}
use Rattle.std.proofs.lemmas.Nat.{and_mask, mod-pow-add, pow-add, pow_pos}
use Rattle.std.proofs.lemmas.Simd.{length-zip2}
use Rattle.std.proofs.Math.Nat.{zero-mod}
use lib.Lanes.{Each1, zip2, number_l}
use Rattle.speedate_base.specs.Digits.{fits_byte, fit_length, fit_digits, digit_pairs}
use Rattle.speedate_base.proofs.PatternLemmas.{less, by_eight, from_le_bytes-number, first-fits}
use Rattle.speedate_base.proofs.PatternLemmas.{fit_length_le}
use Rattle.speedate_base.proofs.numbers.lanes.digit_pairs.Goals as goal

-- the first lanes, less the pattern, are the digits that they stand for
first-digits : (count : ℕ) (forms lanes : List ℕ) → count ≤ fit_length forms lanes
    → Each1 (Fits w8) forms → Each1 (Fits w8) lanes
    → number_l 256 (zip2 less lanes forms) % 2 ^ (8 * count)
    ≡ number_l 256 (fit_digits count forms lanes)
first-digits count [] [] fits patterns small = zero-mod (2 ^ (8 * count))
first-digits count [] (byte ∷ bytes) fits patterns small = zero-mod (2 ^ (8 * count))
first-digits count (form ∷ forms) [] fits patterns small = zero-mod (2 ^ (8 * count))
first-digits zero (form ∷ forms) (byte ∷ bytes) fits patterns small =
    grind (arith, first-digits zero forms bytes (omega arith) patterns.1 small.1)
first-digits (suc count) (form ∷ forms) (byte ∷ bytes) fits patterns small =
    let number : ℕ = number_l 256 (zip2 less (byte ∷ bytes) (form ∷ forms)) in
    let test = first-fits count (fit_length forms bytes) (fits_byte form byte) fits in
    search (
      rules,
      mod-pow-add number (8 * count) 8,
      first-digits count forms bytes test.1 patterns.1 small.1,
    )

digits-small : (count : ℕ) (forms lanes : List ℕ) → count ≤ fit_length forms lanes
    → Each1 (λ (digit : ℕ). digit ≤ 9) (fit_digits count forms lanes)
digits-small count [] lanes fits = tt
digits-small count (form ∷ forms) [] fits = tt
digits-small zero (form ∷ forms) (byte ∷ bytes) fits =
    (omega arith, digits-small zero forms bytes (omega arith))
digits-small (suc count) (form ∷ forms) (byte ∷ bytes) fits =
    search (rules, nat_tests, digits-small count forms bytes)

digits-length : (count : ℕ) (forms lanes : List ℕ) → length forms ≡ length lanes
    → length (fit_digits count forms lanes) ≡ length forms
digits-length count [] lanes same = refl
digits-length count (form ∷ forms) [] same = absurd (omega arith)
digits-length zero (form ∷ forms) (byte ∷ bytes) same =
    search (rules, digits-length zero forms bytes)
digits-length (suc count) (form ∷ forms) (byte ∷ bytes) same =
    search (rules, digits-length count forms bytes)

-- what is computed of a number of eight digits, and what it is
record Spells (digits : List ℕ) : Type 0 where
  fits : 10 * number_l 256 digits + number_l 256 digits / 256 < 2 ^ 64
  are : to_le_bytes w64 (10 * number_l 256 digits + number_l 256 digits / 256) ≡ digit_pairs digits
  small : Each1 (λ (number : ℕ). number ≤ 99) (digit_pairs digits)

spells : (digits : List ℕ) → length digits ≡ 8 → Each1 (λ (digit : ℕ). digit ≤ 9) digits
    → Spells digits
spells = by_eight (λ (digits : List ℕ). Each1 (λ (digit : ℕ). digit ≤ 9) digits → Spells digits)
    (λ a b c d e f g h all. search rules)

small-at : (numbers : List ℕ) → Each1 (λ (number : ℕ). number ≤ 99) numbers → (i : ℕ)
    → get_or numbers i 0 ≤ 99
small-at [] small i = omega arith
small-at (number ∷ numbers) small zero = small.0
small-at (number ∷ numbers) small (suc i) = small-at numbers small.1 i

-- the largest number, moved down, is the mask of the first bytes
mask-is : (count : ℕ) → 1 ≤ count → count ≤ 8
    → 18446744073709551615 / 2 ^ (64 - 8 * count) ≡ 2 ^ (8 * count) - 1
mask-is count some few =
    let low = 64 - 8 * count in
    let high = 8 * count in
    grind (arith, pow_pos low, pow-add 2 low high)

-- what the code computes
record Computed (digits : List ℕ) (masked : ℕ) : Type 0 where
  fits : 10 * masked + masked / 256 < 2 ^ 64
  are : to_le_bytes w64 (10 * masked + masked / 256) ≡ digit_pairs digits
  small : (k : ℕ) → get_or (digit_pairs digits) k 0 ≤ 99

computed : (count : ℕ) (forms lanes : List ℕ) (number : ℕ) → 1 ≤ count
    → count ≤ fit_length forms lanes → length forms ≡ 8 → length lanes ≡ 8
    → Each1 (Fits w8) forms → Each1 (Fits w8) lanes
    → number ≡ from_le_bytes w64 (zip2 less lanes forms)
    → Computed (fit_digits count forms lanes)
    (bit_and number (18446744073709551615 / 2 ^ (64 - 8 * count)))
computed count forms lanes number some fits long eight patterns small is =
    let few : count ≤ 8 = omega (arith, fit_length_le forms lanes) in
    let lessened = zip2 less lanes forms in
    let digits = fit_digits count forms lanes in
    let full : length lessened ≡ 8 = omega (arith, length-zip2 less lanes forms (omega arith)) in
    let whole = is ∙ from_le_bytes-number lessened full in
    let masked = first-digits count forms lanes fits patterns small in
    let same = digits-length count forms lanes (omega arith) in
    let found = spells digits (omega (arith, same)) (digits-small count forms lanes fits) in
    rw (mask-is count some few, whole, and_mask, masked) (record {
      fits = found.fits;
      are = found.are;
      small = small-at _ found.small;
    })

pub overflow_mul-digits : goal.overflow_mul-digits
overflow_mul-digits c = grind (arith, fit_length_le)

pub overflow_sub-digits : goal.overflow_sub-digits
overflow_sub-digits c = grind (arith, fit_length_le)

pub overflow_mul-digits-2 : goal.overflow_mul-digits-2
overflow_mul-digits-2 c =
    let need = c.requires in
    let forms = c.fits-pattern in
    let lanes = c.fits-lanes in
    let word = c.from_le_bytes-word.ensures in
    let is = computed _ _ _ _ need.some need.fits forms.0 lanes.0 forms.1 lanes.1 word in
    record { fits = omega (arith, is.fits) }

pub overflow_add-digits : goal.overflow_add-digits
overflow_add-digits c =
    let need = c.requires in
    let forms = c.fits-pattern in
    let lanes = c.fits-lanes in
    let word = c.from_le_bytes-word.ensures in
    let is = computed _ _ _ _ need.some need.fits forms.0 lanes.0 forms.1 lanes.1 word in
    record { fits = is.fits }

pub returns : goal.returns
returns c =
    let need = c.requires in
    let forms = c.fits-pattern in
    let lanes = c.fits-lanes in
    let word = c.from_le_bytes-word.ensures in
    let is = computed _ _ _ _ need.some need.fits forms.0 lanes.0 forms.1 lanes.1 word in
    let numbers = c.to_le_bytes.ensures ∙ is.are in
    record { numbers = numbers; small = rw numbers is.small }
