use Rattle.std.proofs.Common.{rules, ◌∙◌, sym, ap, ap₂, ℕ, ◌+◌, ◌-◌, ◌*◌, ◌/◌, ◌^◌, length, unsigned_abs, false}
use Rattle.speedate_base.specs.Digits.{digits_value}
use Rattle.speedate_base.proofs.NearestLemmas.{nearest-halved, scale-some}
use Rattle.speedate.specs.IsoForm.{unit_seconds}
use Rattle.speedate.specs.IsoParts.{unit_parts}
use Rattle.speedate.proofs.FractionLemmas.{whole-seconds}
use Rattle.speedate.proofs.duration.iso.DurationUnit.long_fraction.Goals as goal

pub returns-clause-second : goal.returns-clause-second
returns-clause-second c = search (rules, whole-seconds)

pub returns-clause-microsecond : goal.returns-clause-microsecond
returns-clause-microsecond c =
    let digits = c.args.digits.now in
    let second = unit_seconds (unit_parts c.args.self.now) in
    let scale = 10 ^ length digits in
    let size = digits_value digits * (1000000 * second) in
    let near = ap unsigned_abs (nearest-halved false size scale (scale-some (length digits))) in
    let twice = c.twice_microseconds-twice.ensures.twice
    ∙ ap (λ (n : ℕ). 2 * (digits_value digits * (1000000 * n)) / scale)
    c.seconds.ensures.second in
    ap₂ (λ (n m : ℕ). (n + 1) / 2 - 1000000 * m) twice (returns-clause-second c)
    ∙ sym (ap (λ (n : ℕ). n - 1000000 * (digits_value digits * second / scale)) near)
