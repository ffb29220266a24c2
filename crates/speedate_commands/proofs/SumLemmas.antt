-- A run of `sum` adds up the durations of its lines, exactly, and prints no line.
use Rattle.std.proofs.Common.{◌≡◌, ℕ, ℤ, ◌+ℤ◌, Bool, true, false, List, [], ◌∷◌, refl}
use Rattle.std.specs.Prelude.{Option, Some, None, Result, Ok, Err, if◌then◌else◌}
use Rattle.speedate.specs.Duration.{signed_amount}
use Rattle.speedate.specs.DurationNumbers.{DurationNumbers}
use Rattle.speedate_stream.specs.Machine.{head, lines_output, state_after}
use Rattle.speedate_scan.specs.Amount.{amount_of}
use Rattle.speedate_commands.specs.Base.{LineKind, Scan}
use Rattle.speedate_commands.specs.Sum.{IsExact, IsSumAfter, Sum, amounts_of, scan_after}
use Rattle.speedate_commands.specs.Sum.{sum_after, sum_machine, sum_of, total_after, with_first}

adds_up : (sum : Sum) (all : List (List ℕ)) → state_after sum_machine sum all ≡ sum_of sum all
adds_up sum [] = refl
adds_up sum (line ∷ others) = adds_up (sum_after sum (amount_of sum.scan (head line))) others

-- a total that is kept is exact, whether the one before it was kept or not
kept_or_not : (is_kept : Bool) (total : ℤ) (numbers : DurationNumbers)
    (later : List DurationNumbers) (after : Option ℤ)
    → IsExact (if is_kept then Some (total +ℤ signed_amount numbers) else None) later after
    → IsExact (Some total) (numbers ∷ later) after
kept_or_not true total numbers later (Some after) is = is
kept_or_not true total numbers later None is = tt
kept_or_not false total numbers later (Some after) is = absurd is
kept_or_not false total numbers later None is = tt

after_one : (total : Option ℤ) (amount : Result DurationNumbers LineKind)
    (later : List DurationNumbers) (after : Option ℤ)
    → IsExact (total_after total amount) later after → IsExact total (with_first amount later) after
after_one (Some total) (Ok numbers) later after is = kept_or_not _ total numbers later after is
after_one None (Ok numbers) later (Some after) is = is
after_one None (Ok numbers) later None is = tt
after_one (Some total) (Err line) later after is = is
after_one None (Err line) later after is = is

is_exact : (has_hours : Bool) (scan : Scan) (total : Option ℤ) (all : List (List ℕ))
    → IsExact total (amounts_of scan all)
    (sum_of (record { scan = scan; total = total; has_hours = has_hours }) all).total
is_exact has_hours scan (Some total) [] = refl
is_exact has_hours scan None [] = tt
is_exact has_hours scan total (line ∷ others) =
    let amount : Result DurationNumbers LineKind = amount_of scan (head line) in
    after_one total amount (amounts_of (scan_after scan amount) others) _
    (is_exact has_hours (scan_after scan amount) (total_after total amount) others)

pub sum_adds : (sum : Sum) (all : List (List ℕ))
    → IsSumAfter sum all (state_after sum_machine sum all)
sum_adds sum all = rw (adds_up sum all) (record {
  added = refl;
  exact = is_exact sum.has_hours sum.scan sum.total all;
})

pub sum_prints_none : (sum : Sum) (all : List (List ℕ)) → lines_output sum_machine sum all ≡ []
sum_prints_none sum [] = refl
sum_prints_none sum (line ∷ others) =
    sum_prints_none (sum_after sum (amount_of sum.scan (head line))) others
