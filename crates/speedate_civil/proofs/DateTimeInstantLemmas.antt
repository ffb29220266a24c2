-- The date-time of a timestamp lies as many microseconds after 1970-01-01T00:00:00 as the timestamp
-- means.
use Rattle.std.proofs.Common.{◌≡◌, ℕ, true, int_le, length, Option, ℤ, pos, ◌+ℤ◌, ◌*ℤ◌, IfOk, Ok, refl, arith, ◌∙◌, ap, sym, subst}
use Rattle.std.proofs.lemmas.Int.{ints}
use Rattle.speedate_civil.specs.Base.{TimestampUnit}
use Rattle.speedate_base.specs.Timestamp.{decimal_row, decimal_numerator, decimal_microsecond}
use Rattle.speedate_base.specs.Timestamp.{decimal_instant, Instant, timestamp_microsecond}
use Rattle.speedate_base.specs.Timestamp.{instant_at, instant_answer, unit_table, first_second}
use Rattle.speedate_base.specs.Timestamp.{range_table, range_answer, later_instant, later_answer}
use Rattle.speedate_base.specs.Timestamp.{sum_table}
use Rattle.speedate_base.specs.Numbers.{decimal_scale, DecimalParts}
use Rattle.speedate_base.specs.Nearest.{IsNearest}
use Rattle.speedate_civil.specs.DateTime.{DateAndTime, local_second, local_microsecond, IsShownAt}
use Rattle.speedate_civil.specs.DateTime.{date_time_at, instant_date_time}
use Rattle.speedate_civil.specs.DateTime.{date_time_timestamp_answer, date_time_decimal_answer}
use Rattle.speedate_civil.specs.DateTime.{meant_microsecond}
use Rattle.speedate_base.proofs.NearestLemmas.{nearest-is, scale-some}
use Rattle.speedate_base.proofs.TimestampLemmas.{instant_microsecond, instant_at-microsecond}
use Rattle.speedate_civil.proofs.DayNumberLemmas.{day_number-date_of_number}
use Rattle.speedate_base.proofs.RefusalLemmas.{refusal-value}
use Rattle.speedate_base.specs.Requirement.{fault_alone}
use Rattle.speedate_civil.proofs.ReadLemmas.{read-map, read-table, read-then, read-value}

later-is : (microseconds : ℕ) (instant : Instant)
    → instant_microsecond (later_instant microseconds instant)
    ≡ instant_microsecond instant +ℤ pos microseconds
later-is microseconds instant = omega (arith, ints)

local-is : (offset : Option ℤ) (instant : Instant) → int_le first_second instant.second ≡ true
    → local_second (date_time_at offset instant) ≡ instant.second
local-is offset instant after = grind (arith, ints, day_number-date_of_number)

-- a clock shows an instant as the date-time at it
pub date_time_at-shown : (offset : Option ℤ) (instant : Instant)
    → int_le first_second instant.second ≡ true
    → IsShownAt offset instant (date_time_at offset instant)
date_time_at-shown offset instant after =
    record { second = local-is offset instant after; microsecond = refl; attached = refl }

-- what holds of an instant's microsecond holds of that of the date-time at it
instant_date_time-holds : (P : ℤ → Type 0) (offset : Option ℤ) (instant : Instant)
    → P (instant_microsecond instant)
    → IfOk (instant_date_time offset instant) (λ value. P (local_microsecond value))
instant_date_time-holds P offset instant held =
    let Is = λ (value : DateAndTime). P (local_microsecond value) in
    read-map Is (date_time_at offset) (range_answer instant)
    (read-table fault_alone (λ (at : Instant). Is (date_time_at offset at)) (range_table instant) _
    (λ rows. subst P (sym (ap (λ (n : ℤ). pos 1000000 *ℤ n +ℤ pos instant.microsecond)
    (local-is offset instant rows.0))) held))

-- the date-time at an instant is shown at it
pub instant_date_time-shown : (offset : Option ℤ) (instant : Instant) (value : DateAndTime)
    → instant_date_time offset instant ≡ Ok value
    → IsShownAt offset instant value
instant_date_time-shown offset instant value same =
    let Is = IsShownAt offset instant in
    read-value Is (instant_date_time offset instant) value same
    (read-map Is (date_time_at offset) (range_answer instant)
    (read-table fault_alone (λ (at : Instant). Is (date_time_at offset at)) (range_table instant) _
    (λ rows. date_time_at-shown offset instant rows.0)))

-- the date-time of a timestamp lies as many microseconds after 1970-01-01T00:00:00 as the timestamp
-- says
pub date_time_timestamp-instant : (unit : TimestampUnit) (offset : Option ℤ) (microseconds : ℕ)
    (timestamp : ℤ)
    → IfOk (date_time_timestamp_answer unit offset microseconds timestamp)
    (λ value. local_microsecond value ≡ meant_microsecond unit microseconds timestamp)
date_time_timestamp-instant unit offset microseconds timestamp =
    let Is = λ (value : DateAndTime). local_microsecond value
    ≡ meant_microsecond unit microseconds timestamp in
    read-then Is _ (instant_answer unit timestamp)
    (λ instant read. read-then Is _ (later_answer microseconds instant) (λ later after.
    let at = refusal-value fault_alone (unit_table unit timestamp)
    (instant_at (timestamp_microsecond unit timestamp)) instant read in
    let sum = refusal-value fault_alone (sum_table microseconds instant)
    (later_instant microseconds instant) later after in
    instant_date_time-holds (λ (n : ℤ). n ≡ meant_microsecond unit microseconds timestamp)
    offset later
    (ap instant_microsecond (sym sum.1) ∙ later-is microseconds instant
    ∙ rw (sym at.1, instant_at-microsecond (timestamp_microsecond unit timestamp)) refl)))

-- that of a decimal timestamp lies at the microsecond that is nearest to it
pub date_time_decimal-nearest : (unit : TimestampUnit) (offset : Option ℤ) (decimal : DecimalParts)
    → IfOk (date_time_decimal_answer unit offset decimal)
    (λ value. IsNearest (decimal_numerator (decimal_row unit decimal) decimal)
    (decimal_scale decimal) (local_microsecond value))
date_time_decimal-nearest unit offset decimal =
    let row = decimal_row unit decimal in
    let Is = IsNearest (decimal_numerator row decimal) (decimal_scale decimal) in
    instant_date_time-holds Is offset (decimal_instant row decimal)
    (subst Is (sym (instant_at-microsecond (decimal_microsecond row decimal)))
    (nearest-is (decimal_numerator row decimal) (decimal_scale decimal)
    (scale-some (length decimal.fraction))))
