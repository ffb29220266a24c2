use Rattle.std.proofs.Common.{◌≡◌, ◌∙◌, sym, ap, ap₂, arith, pow-add, ℕ, ◌+◌, ◌-◌, ◌*◌, ◌/◌, ◌^◌, ◌≤◌, length, unsigned_abs, pos, false}
use Rattle.std.proofs.Math.Nat.{mul-div-mul_right}
use Rattle.speedate_base.specs.Digits.{digits_value}
use Rattle.speedate_base.proofs.DigitRunLemmas.{fraction_value-filled}
use Rattle.speedate_base.specs.Nearest.{nearest}
use Rattle.speedate_base.proofs.NearestLemmas.{nearest-exact, scale-some}
use Rattle.speedate.specs.IsoForm.{unit_seconds}
use Rattle.speedate.specs.IsoParts.{unit_parts}
use Rattle.speedate.proofs.duration.iso.DurationUnit.fraction.Goals as goal

-- a million, by the digits that there are and those that are missing
million : (count : ℕ) → count ≤ 6 → 1000000 ≡ 10 ^ count * 10 ^ (6 - count)
million count few =
    let all : 6 ≡ count + (6 - count) = omega (arith, few) in
    ap (λ (n : ℕ). 10 ^ n) all ∙ pow-add 10 count (6 - count)

-- the whole seconds of the microseconds of a fraction
whole-seconds : (value second count : ℕ) → count ≤ 6
    → second * (value * 10 ^ (6 - count)) / 1000000 ≡ value * second / 10 ^ count
whole-seconds value second count few =
    let spread : second * (value * 10 ^ (6 - count)) ≡ value * second * 10 ^ (6 - count) =
    grind arith in
    (λ i. spread i / million count few i)
    ∙ mul-div-mul_right (value * second) (10 ^ count) (scale-some (6 - count))

-- its microseconds are whole
whole-microseconds : (value second count : ℕ) → count ≤ 6
    → unsigned_abs (nearest (pos (value * (1000000 * second))) (10 ^ count))
    ≡ second * (value * 10 ^ (6 - count))
whole-microseconds value second count few =
    let scale = 10 ^ count in
    let spread : value * (scale * 10 ^ (6 - count) * second)
    ≡ second * (value * 10 ^ (6 - count)) * scale = grind arith in
    ap (λ (n : ℕ). unsigned_abs (nearest (pos n) scale))
    (ap (λ (n : ℕ). value * (n * second)) (million count few) ∙ spread)
    ∙ ap unsigned_abs (nearest-exact false (second * (value * 10 ^ (6 - count))) scale
    (scale-some count))

pub returns-clause-second : goal.returns-clause-second
returns-clause-second c =
    let digits = c.args.digits.now in
    let second = unit_seconds (unit_parts c.args.self.now) in
    let few : length digits ≤ 6 = omega (arith, c.if-digits-gt-MICROSECOND_LENGTH.false) in
    ap₂ (λ (n m : ℕ). n * m / 1000000) c.seconds.ensures.second
    (c.from.ensures ∙ c.requires.microseconds ∙ fraction_value-filled 6 digits few)
    ∙ whole-seconds (digits_value digits) second (length digits) few

pub returns-clause-microsecond : goal.returns-clause-microsecond
returns-clause-microsecond c =
    let digits = c.args.digits.now in
    let second = unit_seconds (unit_parts c.args.self.now) in
    let few : length digits ≤ 6 = omega (arith, c.if-digits-gt-MICROSECOND_LENGTH.false) in
    let size = ap₂ (λ (n m : ℕ). n * m) c.seconds.ensures.second
    (c.from.ensures ∙ c.requires.microseconds ∙ fraction_value-filled 6 digits few) in
    ap₂ (λ (n m : ℕ). n - 1000000 * m)
    (size ∙ sym (whole-microseconds (digits_value digits) second (length digits) few))
    (returns-clause-second c)
