-- What a parser of whole texts read, as C sees it.
use Rattle.std.proofs.Common.{◌≡◌, ℕ, Result, Ok, Err, refl}
use Rattle.speedate.specs.Requirement.{result_map, with_size}
use Rattle.speedate.specs.declared.Refused.{Refused}

-- a value is seen with the size of its text as it is without
pub whole_seen : {A B : Type 0} (view : A → B) (size : ℕ) (answer : Result A Refused)
    → result_map (with_size view) (result_map (λ (value : A). (value, size)) answer)
    ≡ result_map (λ (value : B). (value, size)) (result_map view answer)
whole_seen view size (Ok value) = refl
whole_seen view size (Err refused) = refl
