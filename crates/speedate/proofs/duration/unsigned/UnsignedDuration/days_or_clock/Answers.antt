use Rattle.std.proofs.Common.{◌≡◌, rules, refl, true, Result, Ok, Err, is_ok}
use Rattle.speedate_base.proofs.RefusalLemmas.{seen-read}
use Rattle.speedate.specs.Duration.{days_or_clock}
use Rattle.speedate.proofs.ClockFormLemmas.{clock-no_letter}
use Rattle.speedate.proofs.duration.unsigned.UnsignedDuration.days_or_clock.Goals as goal

-- a value that was read is one in numbers too
seen : {A E : Type 0} (answer : Result A E) → is_ok answer ≡ true
    → (found : A) × (answer ≡ Ok found)
seen (Ok found) ok = (found, refl)
seen (Err fault) ok = absurd (cc)

pub returns-then-is_ok-clause-answer : goal.returns-then-is_ok-clause-answer
unfolding days_or_clock
returns-then-is_ok-clause-answer g c = search (rules, seen-read, clock-no_letter)

pub returns-then-is_ok-clause-placed : goal.returns-then-is_ok-clause-placed
returns-then-is_ok-clause-placed g c = c.from_clock-clock.ensures.placed
