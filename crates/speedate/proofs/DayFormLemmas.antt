-- Texts of whole days: digits, and the letter of a day.
use Rattle.std.proofs.Common.{arith, refl, ◌≡◌, ℕ, true, List, [], Ok}
use Rattle.std.proofs.lemmas.Bool.Decides.{nat_tests}
use Rattle.std.proofs.lemmas.List.{drop_all}
use Rattle.std.proofs.Math.Seq.{drop-cons}
use Rattle.speedate_civil.specs.Base.{Behavior}
use Rattle.speedate.specs.DayForm.{IsWholeDays, has_whole_ending, after_days, day_form}

ended : has_whole_ending [] ≡ true
ended = refl

-- whole days are their number
pub whole_days : (behavior : Behavior) (text : List ℕ) (days : ℕ) → IsWholeDays text days
    → day_form behavior text ≡ Ok (record { day = days; second = 0; microsecond = 0 })
unfolding day_form after_days
whole_days behavior text days whole = grind (arith, nat_tests, drop_all, drop-cons, ended)
