use Rattle.std.proofs.Common.{rules, ◌≡◌, ◌∙◌, arith, ℕ, Bool, true, false, pos, neg_ℤ, refl, nat_cmp, int_cmp}
use Rattle.std.specs.Ordering.{bool_cmp, ordering_then}
use Rattle.std.proofs.lemmas.Bool.Decides.{nat_tests}
use Rattle.std.proofs.lemmas.Int.{ints}
use Rattle.speedate.specs.Duration.{duration_numbers, signed_amount}
use Rattle.speedate.specs.DurationNumbers.{DurationNumbers, IsDuration, duration_order}
use Rattle.speedate.specs.DurationNumbers.{amount_microseconds}
use Rattle.speedate.proofs.DurationLemmas.{is_duration}
use Rattle.speedate.proofs.duration.order.DurationOrd.cmp.Goals as goal

-- days, seconds and microseconds are ordered as the amount
size-order : (first second : DurationNumbers) → IsDuration first → IsDuration second
    → ordering_then (nat_cmp first.day second.day)
    (ordering_then (nat_cmp first.second second.second)
    (nat_cmp first.microsecond second.microsecond))
    ≡ nat_cmp (amount_microseconds first) (amount_microseconds second)
size-order first second one two =
    grind (arith, nat_tests, one.second, one.microsecond, two.second, two.microsecond)

-- negative numbers are ordered the other way round
turned : (a b : ℕ) → int_cmp (neg_ℤ (pos a)) (neg_ℤ (pos b)) ≡ nat_cmp b a
turned a b = grind (arith, ints, nat_tests)

-- by the sign, and then by the numbers with it, is by the amount with the sign, and then by the
-- sign
order-amount : (p q : Bool) (first second : DurationNumbers) → first.positive ≡ p
    → second.positive ≡ q → IsDuration first → IsDuration second
    → duration_order first second
    ≡ ordering_then (int_cmp (signed_amount first) (signed_amount second))
    (bool_cmp first.positive second.positive)
order-amount true true first second is_first is_second one two =
    rw (is_first, is_second) (grind (arith, nat_tests, size-order first second one two))
order-amount false false first second is_first is_second one two =
    search (rules, turned, size-order)
order-amount true false first second is_first is_second one two =
    rw (is_first, is_second) (grind (arith, ints, nat_tests))
order-amount false true first second is_first is_second one two =
    rw (is_first, is_second) (grind (arith, ints, nat_tests))

pub returns-clause-order : goal.returns-clause-order
returns-clause-order c = search rules

pub returns-clause-length : goal.returns-clause-length
returns-clause-length c =
    let first = duration_numbers c.args.self.now in
    let second = duration_numbers c.args.other.now in
    returns-clause-order c
    ∙ order-amount first.positive second.positive first second refl refl
    (is_duration c.args.self.now) (is_duration c.args.other.now)
