-- A fraction of a unit of an ISO 8601 duration: its whole seconds and what is left are the nearest
-- microseconds, together.
use Rattle.std.proofs.Common.{rules, arith, ap, ◌≡◌, ℕ, ◌+◌, ◌*◌, ◌/◌, ◌<◌, ◌≤◌, List, pos, unsigned_abs, false}
use Rattle.std.proofs.Math.Nat.{div-div-eq-div-mul, mul-div-mul_right}
use Rattle.speedate_base.specs.Nearest.{nearest}
use Rattle.speedate_base.proofs.NearestLemmas.{nearest-halved, nearest-is, scale-some}
use Rattle.speedate.specs.IsoForm.{IsoUnit, fraction_seconds, fraction_microseconds}
use Rattle.speedate.specs.IsoAmount.{IsFractionOf}

-- the whole seconds of a fraction, from twice its microseconds
pub whole-seconds : (value second scale : ℕ)
    → 2 * (value * (1000000 * second)) / scale / 2000000 ≡ value * second / scale
whole-seconds value second scale = search (rules, div-div-eq-div-mul, mul-div-mul_right)

-- and no less than the microseconds of the fraction's whole seconds
whole-few : (value second scale : ℕ) → 0 < scale
    → 1000000 * (value * second / scale)
    ≤ unsigned_abs (nearest (pos (value * (1000000 * second))) scale)
whole-few value second scale some =
    let near = ap unsigned_abs (nearest-halved false (value * (1000000 * second)) scale some) in
    let whole = whole-seconds value second scale in
    omega (arith, near, whole)

-- the seconds and the microseconds of a fraction, in microseconds
abbrev pub fraction_amount : IsoUnit → List ℕ → ℕ
fraction_amount unit digits =
    1000000 * fraction_seconds unit digits + fraction_microseconds unit digits

-- they are the number that is nearest to it
pub fraction_amount-is : (unit : IsoUnit) (digits : List ℕ)
    → IsFractionOf unit digits (fraction_amount unit digits)
fraction_amount-is unit digits = search (rules, whole-few, nearest-halved, nearest-is, scale-some)
