use Rattle.std.proofs.Common.{◌≡◌, ◌∙◌, ap, ℕ, suc, ◌+◌, ◌-◌, ◌*◌, ◌/◌, ◌^◌, ◌<◌, List, [], ◌∷◌, length, drop, get_or, arith, rules, Fits, w8, w64}
use Rattle.std.specs.Int.{from_le_bytes}
use Rattle.std.proofs.lemmas.List.{take_all}
use lib.Lanes.{number_l, digits_l}
use Rattle.speedate_base.specs.Digits.{eight_at}
use Rattle.speedate_base.proofs.PatternLemmas.{by_eight, from_le_bytes-number}
use Rattle.speedate_base.proofs.numbers.lanes.load_tail.Goals as goal

-- the number of eight bytes, moved down by all but the last ones
moved : (left a b c d e f g h : ℕ) → left < 8 → a < 256 → b < 256 → c < 256 → d < 256 → e < 256
    → f < 256 → g < 256 → h < 256
    → digits_l 256 8 (number_l 256 (a ∷ b ∷ c ∷ d ∷ e ∷ f ∷ g ∷ h ∷ []) / 256 / 2 ^
    (8 * (7 - left)) + 0)
    ≡ eight_at (drop (8 - left) (a ∷ b ∷ c ∷ d ∷ e ∷ f ∷ g ∷ h ∷ [])) 0
moved (suc (suc (suc (suc (suc (suc (suc (suc more))))))))
    a b c d e f g h few sa sb sc sd se sf sg sh = absurd (omega arith)
moved left a b c d e f g h few sa sb sc sd se sf sg sh = search rules

eight_moved : (bytes : List ℕ) → length bytes ≡ 8 → ((i : ℕ) → Fits w8 (get_or bytes i 0))
    → (left : ℕ) → left < 8
    → digits_l 256 8 (number_l 256 bytes / 256 / 2 ^ (8 * (7 - left)) + 0)
    ≡ eight_at (drop (8 - left) bytes) 0
eight_moved =
    by_eight (λ (bytes : List ℕ). ((i : ℕ) → Fits w8 (get_or bytes i 0)) → (left : ℕ) → left < 8
    → digits_l 256 8 (number_l 256 bytes / 256 / 2 ^ (8 * (7 - left)) + 0)
    ≡ eight_at (drop (8 - left) bytes) 0)
    (λ a b c d e f g h small left few. moved left a b c d e f g h few (small 0).fits (small 1).fits
    (small 2).fits (small 3).fits
    (small 4).fits (small 5).fits (small 6).fits (small 7).fits)

pub returns : goal.returns
returns c =
    let bytes = c.args.bytes.now in
    let number =
    c.from_le_bytes-word.ensures ∙ ap (from_le_bytes w64) (take_all 8 bytes (omega arith))
    ∙ from_le_bytes-number bytes c.requires.long in
    record {
      bytes = rw number
          (eight_moved bytes c.requires.long c.type_inv.bytes c.args.left c.requires.few);
    }
