use Rattle.std.proofs.Common.{◌≡◌, ◌∙◌, rules, ap, sym, ℤ, pos, ◌+ℤ◌, ◌-ℤ◌, ◌≤ℤ◌, Option, arith}
use Rattle.std.proofs.lemmas.Int.{ints}
use Rattle.std.specs.Option.{ForSome, unwrap_or}
use Rattle.speedate_base.specs.Offset.{IsOffset}
use Rattle.speedate_base.specs.Timestamp.{Instant, IsInYears, first_second, last_second}
use Rattle.speedate_base.specs.Timestamp.{unix_instant}
use Rattle.speedate_civil.specs.DateTime.{date_time_at, utc_second}
use Rattle.speedate_civil.proofs.DateTimeInstantLemmas.{date_time_at-shown}
use Rattle.speedate_civil.proofs.ValueLemmas.{offset-small}
use Rattle.speedate.proofs.column.date_time.timestamp_second.Goals as goal

-- the second in UTC of what is shown at an instant
utc_second-at : (offset : Option ℤ) (instant : Instant) → IsInYears instant
    → utc_second (date_time_at offset instant) ≡ instant.second -ℤ unwrap_or offset (pos 0)
utc_second-at offset instant within =
    ap (λ (second : ℤ). second -ℤ unwrap_or offset (pos 0))
    (date_time_at-shown offset instant within.0).second

-- an offset moves a second by less than a day
late : (second : ℤ) (offset : Option ℤ) → first_second ≤ℤ second → ForSome offset IsOffset
    → (first_second -ℤ pos 86399) ≤ℤ (second -ℤ unwrap_or offset (pos 0))
late second offset after is = omega (arith, ints, offset-small offset is)

early : (second : ℤ) (offset : Option ℤ) → second ≤ℤ last_second → ForSome offset IsOffset
    → (second -ℤ unwrap_or offset (pos 0)) ≤ℤ (last_second +ℤ pos 86399)
early second offset before is = omega (arith, ints, offset-small offset is)

pub returns-clause-second : goal.returns-clause-second
returns-clause-second c =
    search rules ∙ sym (utc_second-at c.args.offset (unix_instant c.args.time) c.requires.within)

pub returns-clause-least : goal.returns-clause-least
returns-clause-least c = search (rules, returns-clause-second, utc_second-at, late)

pub returns-clause-largest : goal.returns-clause-largest
returns-clause-largest c = search (rules, returns-clause-second, utc_second-at, early)
