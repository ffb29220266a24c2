use Rattle.std.proofs.Common.{◌≡◌, ◌∙◌, ◌&&◌, subst, ℕ, ◌+◌, ◌<◌, List, [], ◌∷◌, length, get_or, rules, Fits, w8}
use lib.Lanes.{number_l, digits_l}
use Rattle.speedate_base.specs.Digits.{are_at_most}
use Rattle.speedate_base.proofs.PatternLemmas.{by_eight, from_le_bytes-number}
use Rattle.speedate_c.proofs.ranges.are_in_ranges.Goals as goal

-- eight numbers are the digits of the number that they make
again : (a b c d e f g h : ℕ) → a < 256 → b < 256 → c < 256 → d < 256 → e < 256 → f < 256
    → g < 256 → h < 256
    → digits_l 256 8 (number_l 256 (a ∷ b ∷ c ∷ d ∷ e ∷ f ∷ g ∷ h ∷ []) + 0)
    ≡ a ∷ b ∷ c ∷ d ∷ e ∷ f ∷ g ∷ h ∷ []
again a b c d e f g h sa sb sc sd se sf sg sh = search rules

eight_again : (numbers : List ℕ) → length numbers ≡ 8
    → ((i : ℕ) → Fits w8 (get_or numbers i 0))
    → digits_l 256 8 (number_l 256 numbers + 0) ≡ numbers
eight_again =
    by_eight (λ (numbers : List ℕ). ((i : ℕ) → Fits w8 (get_or numbers i 0))
    → digits_l 256 8 (number_l 256 numbers + 0) ≡ numbers)
    (λ a b c d e f g h small. again a b c d e f g h (small 0).fits (small 1).fits (small 2).fits
    (small 3).fits (small 4).fits (small 5).fits (small 6).fits (small 7).fits)

pub returns : goal.returns
returns c =
    let numbers = c.args.numbers in
    let long : length numbers ≡ 8 = search rules in
    let small : (i : ℕ) → Fits w8 (get_or numbers i 0) = search rules in
    let number = c.from_le_bytes.ensures ∙ from_le_bytes-number numbers long in
    let lanes : digits_l 256 8 (c.from_le_bytes.result + 0) ≡ numbers =
    rw number (eight_again numbers long small) in
    record {
      between = subst (λ (lanes : List ℕ). c.eight_are_between.result
          ≡ (are_at_most c.args.lowest lanes && are_at_most lanes c.args.highest))
          lanes c.eight_are_between.ensures.between;
    }
