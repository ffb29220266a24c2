use Rattle.std.proofs.Common.{◌≡◌, ℕ, ◌+◌, ◌*◌, List, [], ◌∷◌, length, get_or, arith}
use Rattle.std.proofs.lemmas.Grind.{common_steps}
use Rattle.speedate_base.specs.Digits.{digits_value, fit_digits, digit_pairs}
use Rattle.speedate_base.proofs.PatternLemmas.{by_eight}
use Rattle.speedate_base.proofs.numbers.lanes.eight_digits.Goals as goal

-- every other pair of eight digits, joined
abbrev joined : List ℕ → ℕ
joined numbers =
    1000000 * get_or numbers 0 0 + 10000 * get_or numbers 2 0 + 100 * get_or numbers 4 0
    + get_or numbers 6 0

joined-spells : (lanes : List ℕ) → length lanes ≡ 8
    → joined (digit_pairs (fit_digits 8 (48 ∷ 48 ∷ 48 ∷ 48 ∷ 48 ∷ 48 ∷ 48 ∷ 48 ∷ []) lanes))
    ≡ digits_value lanes
joined-spells = grind (arith, common_steps, by_eight)

pub returns-clause-value : goal.returns-clause-value
returns-clause-value c = grind (arith, joined-spells c.args.lanes)
