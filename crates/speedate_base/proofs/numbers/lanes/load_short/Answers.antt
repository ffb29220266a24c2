use Rattle.std.proofs.Common.{◌≡◌, ℕ, ◌+◌, ◌-◌, ◌*◌, ◌/◌, ◌^◌, ◌<◌, ◌≤◌, List, [], ◌∷◌, length, take, drop, get_or, arith, rules, Fits, w8}
use Rattle.std.proofs.lemmas.Grind.{common_steps}
use lib.Lanes.{digits_l}
use Rattle.speedate_base.specs.Digits.{eight_at}
use Rattle.speedate_base.proofs.numbers.lanes.load_short.Goals as goal

-- the number of the first four bytes
abbrev four : List ℕ → ℕ
four bytes =
    get_or bytes 0 0 + 256 * get_or bytes 1 0 + 65536 * get_or bytes 2 0 + 16777216
    * get_or bytes 3 0

-- what the first four and the last four of few bytes make, where what they share is moved out
made : (bytes : List ℕ) (first last : ℕ) → 4 ≤ length bytes → length bytes < 8
    → ((i : ℕ) → Fits w8 (get_or bytes i 0)) → first ≡ four bytes
    → last ≡ four (take (length bytes - (length bytes - 4)) (drop (length bytes - 4) bytes))
    → digits_l 256 8 (first + last / 2 ^ (8 * (8 - length bytes)) * 4294967296 + 0)
    ≡ eight_at bytes 0
made (a ∷ b ∷ c ∷ d ∷ []) first last many few small one two =
    search (rules, small 0, small 1, small 2, small 3)
made (a ∷ b ∷ c ∷ d ∷ e ∷ []) first last many few small one two =
    search (rules, small 0, small 1, small 2, small 3, small 4)
made (a ∷ b ∷ c ∷ d ∷ e ∷ f ∷ []) first last many few small one two =
    search (rules, small 0, small 1, small 2, small 3, small 4, small 5)
made (a ∷ b ∷ c ∷ d ∷ e ∷ f ∷ g ∷ []) first last many few small one two =
    search (rules, small 0, small 1, small 2, small 3, small 4, small 5, small 6)
made bytes first last many few small one two = absurd (omega arith)

pub returns : goal.returns
returns c = search (rules, made)

pub returns-then-bytes-lt4 : goal.returns-then-bytes-lt4
returns-then-bytes-lt4 c = grind (arith, common_steps)
