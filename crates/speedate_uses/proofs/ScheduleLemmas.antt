-- The first run later than now is counted by division, and comes whole numbers of times after the
-- last one.
use Rattle.std.proofs.Common.{◌≡◌, ℕ, ◌+◌, ◌*◌, ◌/◌, ◌<◌, Bool, true, false, not, ℤ, pos, negsuc, ◌+ℤ◌, ◌-ℤ◌, ◌≤ℤ◌, int_lt, unsigned_abs, Result, Ok, Err, IsOk, inl, inr, refl, arith, div-lt_iff_lt-mul, mul-le-mul_right}
use Rattle.std.proofs.Math.Nat.{div-eq_of_lt, mul-div-le, lt-div-mul-add}
use Rattle.std.proofs.lemmas.Bool.{cases_lt}
use Rattle.std.proofs.lemmas.Bool.Decides.{nat_tests}
use Rattle.std.proofs.lemmas.Int.{ints}
use Rattle.speedate.specs.declared.Duration.{Duration}
use Rattle.speedate.specs.Base.{ParseError}
use Rattle.speedate.specs.Duration.{amount_answer, ◌gives◌}
use Rattle.speedate.specs.Numbers.{with_sign}
use Rattle.speedate_uses.specs.Schedule.{next_count, IsNextRun}

-- the first run later than now comes that many times `every` after the last one
counted : (last now gone : ℤ) (every : ℕ) → 0 < every → gone ≡ now -ℤ last
    → IsNextRun last (pos every) now (last +ℤ pos (next_count every gone * every))
counted last now (pos gone) every some same = record {
  due = (gone / every + 1, omega arith, refl);
  later = omega (arith, ints, lt-div-mul-add {a = gone} some);
  first = λ count one later.
      let fewer : gone / every < count = (div-lt_iff_lt-mul some).1 (omega (arith, ints)) in
      omega (arith, ints, mul-le-mul_right every fewer);
}
counted last now (negsuc below) every some same = record {
  due = (1, omega arith, refl);
  later = omega (arith, ints);
  first = λ count one later. omega (arith, ints, mul-le-mul_right every one);
}

-- a wait is no longer than the longest duration, where `every` is not and what has gone by is at
-- most half of that
pub wait-small : (every : ℕ) (gone : ℤ) → every < 86400000000000000000
    → unsigned_abs gone < 43200000000000000000
    → next_count every gone * every < 86400000000000000000
wait-small every (pos gone) short few = elim (cases_lt gone every) [
  | inl longer ↦ grind (arith, nat_tests, div-eq_of_lt {n = gone} {m = every})
  | inr shorter ↦ omega (arith, mul-div-le gone every)
]
wait-small every (negsuc below) short few = omega arith

-- a number of microseconds that is no longer has a duration
pub amount-fits : (result : Result Duration ParseError) (amount : ℤ)
    → unsigned_abs amount < 86400000000000000000 → result gives amount_answer amount → IsOk result
amount-fits (Ok duration) amount few same = refl
amount-fits (Err fault) (pos amount) few same = absurd (grind (arith, nat_tests))
amount-fits (Err fault) (negsuc below) few same = absurd (grind (arith, nat_tests))

-- the run that is found is the first one
pub first_run : (positive : Bool) (last now run : ℤ) (every : ℕ)
    → int_lt (pos 0) (with_sign (not positive) every) ≡ true
    → run ≡ last +ℤ pos (next_count every (now -ℤ last) * every)
    → IsNextRun last (with_sign (not positive) every) now run
first_run false last now run every some is = absurd (grind (arith, ints, nat_tests))
first_run true last now run every some is =
    rw is (counted last now (now -ℤ last) every (grind (arith, ints, nat_tests)) refl)

-- what is positive is not zero or less
pub not-positive : (amount : ℤ) → int_lt (pos 0) amount ≡ true → amount ≤ℤ pos 0 → ⊥
not-positive (pos amount) some none = grind (arith, ints, nat_tests)
not-positive (negsuc below) some none = grind (arith, ints, nat_tests)
