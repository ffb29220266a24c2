-- The instants of timestamps.
use Rattle.std.proofs.Common.{◌≡◌, ◌≤◌, ℤ, pos, ◌+ℤ◌, ◌*ℤ◌, rules}
use Rattle.speedate_base.specs.Timestamp.{Instant, instant_at}

-- an instant in microseconds
abbrev pub instant_microsecond : Instant → ℤ
instant_microsecond instant = pos 1000000 *ℤ instant.second +ℤ pos instant.microsecond

-- the instant at a microsecond has that many
pub instant_at-microsecond : (microsecond : ℤ)
    → instant_microsecond (instant_at microsecond) ≡ microsecond
instant_at-microsecond microsecond = search rules

-- the instant at the microsecond of an instant
pub instant_at-is : (at : ℤ) (instant : Instant) → instant.microsecond ≤ 999999
    → at ≡ instant_microsecond instant → instant_at at ≡ instant
instant_at-is at instant small is = search rules

-- the instant of a timestamp in seconds
pub instant_of_seconds : (second : ℤ)
    → instant_at (pos 1000000 *ℤ second) ≡ record { second = second; microsecond = 0 }
instant_of_seconds second = search rules

-- the microseconds that are left are less than a second
left-small : (microsecond : ℤ) → (instant_at microsecond).microsecond ≤ 999999
left-small microsecond = search rules

-- microseconds that are carried into a second
pub instant_at-carried : (second microsecond : ℤ)
    → instant_at (pos 1000000 *ℤ second +ℤ microsecond)
    ≡ record {
      second = second +ℤ (instant_at microsecond).second;
      microsecond = (instant_at microsecond).microsecond;
    }
instant_at-carried second microsecond =
    search (rules, instant_at-is, left-small, instant_at-microsecond)
