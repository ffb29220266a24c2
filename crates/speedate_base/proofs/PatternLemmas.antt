-- What is known of bytes that are as a pattern has them.
use Rattle.std.proofs.Common.{◌≡◌, ℕ, zero, suc, ◌+◌, ◌-◌, ◌%◌, ◌≤◌, Bool, true, not, min, nat_eq, nat_lt, ◌==◌, if◌then◌else◌, Some, None, List, [], ◌∷◌, length, drop, refl, w64, arith, rules}
use Rattle.std.specs.Bool.{then_some}
use Rattle.std.specs.Int.{from_le_bytes}
use Rattle.std.specs.List.{list_all, prefix_len}
use Rattle.std.proofs.lemmas.List.{get_or-drop, map-id}
use Rattle.std.proofs.lemmas.List.Sums.{prefix_len-le-length}
use Rattle.std.proofs.lemmas.Simd.{mask_l-mod, first_set_mask_l}
use Rattle.std.proofs.lemmas.Bool.Decides.{nat_tests}
use lib.Count.{count_trailing_zeros}
use lib.Lanes.{mask_l, number_l}
use Rattle.speedate_base.specs.Digits.{eight_at, fits_byte, fit_length}

-- a list of eight is made of eight
pub by_eight : (P : List ℕ → Type 0)
    → ((a b c d e f g h : ℕ) → P (a ∷ b ∷ c ∷ d ∷ e ∷ f ∷ g ∷ h ∷ [])) → (bytes : List ℕ)
    → length bytes ≡ 8 → P bytes
by_eight P each (a ∷ b ∷ c ∷ d ∷ e ∷ f ∷ g ∷ h ∷ []) long = each a b c d e f g h
by_eight P each bytes long = absurd (omega arith)

-- so std's number of eight bytes is their number in base 256, the first byte lowest
pub from_le_bytes-number : (bytes : List ℕ) → length bytes ≡ 8
    → from_le_bytes w64 bytes ≡ number_l 256 bytes
from_le_bytes-number =
    by_eight (λ (bytes : List ℕ). from_le_bytes w64 bytes ≡ number_l 256 bytes)
    (λ a b c d e f g h. omega arith)

-- a lane less the pattern's byte
abbrev pub less : ℕ → ℕ → ℕ
less lane form = (lane + (256 - form)) % 256

-- no more bytes fit than the pattern has
pub fit_length_le : (forms lanes : List ℕ) → fit_length forms lanes ≤ length forms
fit_length_le [] lanes = omega arith
fit_length_le (form ∷ forms) [] = omega arith
fit_length_le (form ∷ forms) (byte ∷ bytes) = grind (arith, nat_tests, fit_length_le forms bytes)

-- the first `count` bytes are as the pattern has them
abbrev pub AllFit : ℕ → List ℕ → List ℕ → Type 0
AllFit zero forms bytes = Unit {0}
AllFit (suc count) [] bytes = ⊥
AllFit (suc count) (form ∷ forms) [] = ⊥
AllFit (suc count) (form ∷ forms) (byte ∷ bytes) =
    (fits_byte form byte ≡ true) × AllFit count forms bytes

-- where one more byte fits, the first one does, and the others after it
pub first-fits : (count rest : ℕ) (test : Bool) → suc count ≤ (if test then 1 + rest else 0)
    → (test ≡ true) × (count ≤ rest)
first-fits count rest test enough = search rules

-- where the first bytes fit, each of them does
pub fit_length-all : (count : ℕ) (forms bytes : List ℕ) → count ≤ fit_length forms bytes
    → AllFit count forms bytes
fit_length-all zero forms bytes enough = tt
fit_length-all (suc count) [] bytes enough = absurd (omega arith)
fit_length-all (suc count) (form ∷ forms) [] enough = absurd (omega arith)
fit_length-all (suc count) (form ∷ forms) (byte ∷ bytes) enough =
    let first = first-fits count (fit_length forms bytes) (fits_byte form byte) enough in
    (first.0, fit_length-all count forms bytes first.1)

-- eight bytes of a text are the first eight of what begins at their place
pub eight_at-drop : (place : ℕ) (text : List ℕ) → eight_at text place ≡ eight_at (drop place text) 0
eight_at-drop place text = search (rules, get_or-drop)

no_bit : count_trailing_zeros 64 0 ≡ 64
unfolding count_trailing_zeros
no_bit = refl

-- the place of the lowest bit of a mask, or how many bits it has if none is set
pub lowest_bit : (tests : List Bool) (count : ℕ) → length tests ≡ count → count ≤ 64
    → min (count_trailing_zeros 64 (mask_l tests % 18446744073709551616)) count
    ≡ prefix_len not tests
lowest_bit tests count long few =
    let first = rw (map-id tests) at
    (first_set_mask_l (λ (test : Bool). test) tests count long few) in
    grind (arith, nat_tests, first, no_bit, mask_l-mod tests 64, prefix_len-le-length not tests)

-- a mask is 0 if and only if no bit is set
pub no_bits : (tests : List Bool) → nat_eq (mask_l tests) 0 ≡ list_all not tests
no_bits [] = refl
no_bits (test ∷ tests) = grind (arith, nat_tests, no_bits tests)

-- no bit is set if and only if the tests end without one
no_bits_whole : (tests : List Bool)
    → nat_eq (mask_l tests) 0 ≡ (prefix_len not tests == length tests)
no_bits_whole [] = refl
no_bits_whole (test ∷ tests) = grind (arith, nat_tests, no_bits_whole tests)

-- the place of the lowest bit of a mask, if one is set
pub lowest_bit_set : (tests : List Bool) (count : ℕ) → length tests ≡ count → count ≤ 64
    → then_some (not (nat_eq (mask_l tests % 18446744073709551616) 0))
    (count_trailing_zeros 64 (mask_l tests % 18446744073709551616))
    ≡ (if nat_lt (prefix_len not tests) count then Some (prefix_len not tests) else None)
lowest_bit_set tests count long few =
    grind (arith, lowest_bit tests count long few, mask_l-mod tests 64, no_bits_whole tests)
