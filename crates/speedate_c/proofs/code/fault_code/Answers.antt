use Rattle.std.proofs.Common.{◌≡◌, ℕ, ◌+◌, ◌-◌, Bool, true, pos, int_le, slice_get, Some, None, if◌then◌else◌, arith, ap, ◌∙◌, rules}
use Rattle.speedate.specs.Base.{ParseError}
use Rattle.std.proofs.lemmas.Bool.Decides.{nat_tests}
use Rattle.std.proofs.lemmas.Int.{ints}
use Rattle.speedate.specs.Fault.{fault_place}
use Rattle.speedate_c.specs.Code.{faults, fault_of}
use Rattle.speedate_c.proofs.code.fault_code.Goals as goal

listed : (fault : ParseError) → slice_get faults (fault_place fault) ≡ Some fault
listed fault = search rules

-- the code of a place leads back to the fault there
of_place : (place : ℕ) → fault_of (pos (place + 1)) ≡ slice_get faults place
of_place place =
    let some : int_le (pos 1) (pos (place + 1)) ≡ true = grind (arith, ints, nat_tests) in
    let back : place + 1 - 1 ≡ place = omega arith in
    ap (λ (test : Bool). if test then slice_get faults (place + 1 - 1) else None) some
    ∙ ap (slice_get faults) back

pub returns-clause-code : goal.returns-clause-code
returns-clause-code c = search rules

pub returns-clause-reads_back : goal.returns-clause-reads_back
returns-clause-reads_back c =
    ap fault_of (returns-clause-code c) ∙ of_place (fault_place c.args.fault) ∙ listed c.args.fault
