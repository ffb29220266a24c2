use Rattle.std.proofs.lemmas.Bool.Decides.{nat_tests}
use Rattle.std.proofs.Common.{◌≡◌, ℕ, ◌≤◌, ℤ, pos, ◌-ℤ◌, ◌*ℤ◌, SFits, to_z, of_z, w64, arith, rules}
use Rattle.std.proofs.lemmas.Int.{fits_signed_mul, ints, to_z-of_z}
use Rattle.speedate_base.specs.Timestamp.{seconds_per_day}
use Rattle.speedate_civil.specs.Calendar.{epoch_day}
use Rattle.speedate_civil.specs.Date.{ymd}
use Rattle.speedate_civil.proofs.DateTimestampLemmas.{date_timestamp-leads_back, counted}
use Rattle.speedate_civil.proofs.date.Date.timestamp.Goals as goal

-- the second of midnight, in 64 bits
abbrev product : ℤ → ℤ → ℤ
product day per_day =
    to_z w64 (of_z w64 (to_z w64 (of_z w64 day) -ℤ pos epoch_day)) *ℤ to_z w64 (of_z w64 per_day)

product-is : (number : ℕ) (day per_day : ℤ) → number ≤ 3652424 → day ≡ pos number
    → per_day ≡ pos seconds_per_day
    → product day per_day ≡ (pos number -ℤ pos epoch_day) *ℤ pos seconds_per_day
product-is number day per_day small day_is per_day_is =
    rw (day_is, per_day_is) (omega (arith, ints))

product-fits : (number : ℕ) (day per_day : ℤ) → number ≤ 3652424 → day ≡ pos number
    → per_day ≡ pos seconds_per_day → SFits w64 (product day per_day)
product-fits number day per_day small day_is per_day_is =
    search (rules, product-is, fits_signed_mul)

midnight : (number : ℕ) (day per_day : ℤ) → number ≤ 3652424 → day ≡ pos number
    → per_day ≡ pos seconds_per_day → to_z w64 (of_z w64 (product day per_day))
    ≡ (pos number -ℤ pos epoch_day) *ℤ pos seconds_per_day
midnight number day per_day small day_is per_day_is =
    grind (arith, nat_tests, to_z-of_z, product-fits, product-is)

pub returns-clause-second : goal.returns-clause-second
returns-clause-second c =
    let few = (counted c.day_number.result _ c.day_number.ensures.numbered).0 in
    rw (c.from.ensures, c.from-2.ensures) (omega (arith, ints, few, c.day_number.ensures.number))

pub overflow_mul-result : goal.overflow_mul-result
overflow_mul-result c =
    product-fits c.day_number.result c.from.result c.from-2.result
    (counted c.day_number.result _ c.day_number.ensures.numbered).0 c.from.ensures c.from-2.ensures

pub returns-clause-leads_back : goal.returns-clause-leads_back
returns-clause-leads_back c = λ exact.
    let numbered = c.day_number.ensures.numbered in
    let is = midnight c.day_number.result c.from.result c.from-2.result
    (counted c.day_number.result _ numbered).0 c.from.ensures c.from-2.ensures in
    date_timestamp-leads_back c.day_number.result (ymd c.args.self.now) _ exact numbered is
