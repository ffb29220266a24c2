-- Timestamps in seconds, milliseconds or microseconds since 1970-01-01T00:00:00 (Unix time), and
-- the instants that they mean.
use Rattle.std.specs.Prelude.{ℕ, ◌^◌, Bool, true, IsTrue, nat_le, nat_lt, if◌then◌else◌, List, [], ◌∷◌, ℤ, pos, neg_ℤ, ◌*ℤ◌, int_le, unsigned_abs, Result, Ok, ◌*◌, length, ◌+◌, ◌/◌, ◌%◌, ◌+ℤ◌, int_lt}
use Rattle.std.specs.Int.{int_div_euclid, int_rem_euclid}
use Rattle.std.specs.Ordering.{int_cmp, nat_cmp, on, then_cmp}
use Rattle.std.specs.declared.cmp.Ordering.{Ordering}
use Rattle.speedate_base.specs.declared.util.unix_time.UnixUnit.{UnixUnit}
use Rattle.speedate_base.specs.declared.util.unix_time.UnixTime.{UnixTime}
use Rattle.speedate_base.specs.Config.{refuses_digits, Behavior, TimestampUnit}
use Rattle.speedate_base.specs.Nearest.{nearest}
use Rattle.speedate_base.specs.Numbers.{DecimalParts, decimal_digits, decimal_scale, with_sign}
use Rattle.speedate_base.specs.Requirement.{NumberRow, ◌else_fault◌, first_fault_or, ◌implies◌}
use Rattle.speedate_base.specs.Requirement.{ParseError}

-- the seconds of a day
abbrev pub seconds_per_day : ℕ
seconds_per_day = 86400

-- an instant: seconds since 1970-01-01T00:00:00, rounded down, and the microseconds that are left,
-- below a million
pub record Instant : Type 0 where
  pub second : ℤ
  pub microsecond : ℕ

-- the order of instants: by second, then by microsecond
abbrev pub instant_order : Instant → Instant → Ordering
instant_order =
    then_cmp (on (λ instant. instant.second) int_cmp) (on (λ instant. instant.microsecond) nat_cmp)

-- a unit of timestamps: its microseconds, how many digits after a point are whole ones, and the
-- fault of a text with more
pub record UnitRow : Type 0 where
  pub microseconds : ℕ
  pub digits : ℕ
  pub too_long : ParseError

abbrev pub second_row : UnitRow
second_row =
    record { microseconds = 1000000; digits = 6; too_long = ParseError.SecondFractionTooLong }

abbrev pub millisecond_row : UnitRow
millisecond_row =
    record { microseconds = 1000; digits = 3; too_long = ParseError.MillisecondFractionTooLong }

abbrev pub microsecond_row : UnitRow
microsecond_row =
    record { microseconds = 1; digits = 0; too_long = ParseError.MicrosecondFractionTooLong }

-- the largest timestamp, without its sign, that is in seconds if its unit is inferred
abbrev pub inferred_seconds_max : ℕ
inferred_seconds_max = 20000000000

-- the row of a unit, given whether the timestamp without its sign is at most 20,000,000,000
abbrev pub unit_row : TimestampUnit → Bool → UnitRow
unit_row TimestampUnit.Second few = second_row
unit_row TimestampUnit.Millisecond few = millisecond_row
unit_row TimestampUnit.Microsecond few = microsecond_row
unit_row TimestampUnit.Infer few = if few then second_row else millisecond_row

-- the microseconds since 1970-01-01T00:00:00 that a timestamp means
abbrev pub timestamp_microsecond : TimestampUnit → ℤ → ℤ
timestamp_microsecond unit timestamp =
    pos (unit_row unit (nat_le (unsigned_abs timestamp) inferred_seconds_max)).microseconds
    *ℤ timestamp

-- the instant a number of microseconds after 1970-01-01T00:00:00
abbrev pub instant_at : ℤ → Instant
instant_at microsecond = record {
  second = int_div_euclid microsecond (pos 1000000);
  microsecond = unsigned_abs (int_rem_euclid microsecond (pos 1000000));
}

-- the second since 1970-01-01T00:00:00 in which a timestamp lies
abbrev pub timestamp_second : TimestampUnit → ℤ → ℤ
timestamp_second unit timestamp = (instant_at (timestamp_microsecond unit timestamp)).second

-- a timestamp has a unit: one is inferred only if the timestamp without its sign is below 2^63,
-- which `i64::MIN` is not
abbrev pub has_unit : TimestampUnit → ℤ → Bool
has_unit TimestampUnit.Infer timestamp = nat_lt (unsigned_abs timestamp) (2 ^ 63)
has_unit given timestamp = true

-- what a timestamp has to meet to have a unit
abbrev pub unit_table : TimestampUnit → ℤ → List NumberRow
unit_table unit timestamp = (has_unit unit timestamp else_fault ParseError.DateTooSmall) ∷ []

-- the instant of a timestamp, or its fault
abbrev pub instant_answer : TimestampUnit → ℤ → Result Instant ParseError
instant_answer unit timestamp =
    first_fault_or (unit_table unit timestamp)
    (Ok (instant_at (timestamp_microsecond unit timestamp)))

-- the instant a number of microseconds later
abbrev pub later_instant : ℕ → Instant → Instant
later_instant microseconds instant =
    let sum = instant.microsecond + microseconds in
    record { second = instant.second +ℤ pos (sum / 1000000); microsecond = sum % 1000000 }

-- what an instant and additional microseconds have to meet to be added: their microseconds fit 32
-- bits, and the seconds 64 bits with a sign
abbrev pub sum_table : ℕ → Instant → List NumberRow
sum_table microseconds instant =
    (nat_lt (instant.microsecond + microseconds) (2 ^ 32) else_fault ParseError.TimeTooLarge)
    ∷ (int_lt (later_instant microseconds instant).second (pos (2 ^ 63))
    else_fault ParseError.TimeTooLarge)
    ∷ []

-- the instant a number of microseconds later, or the fault of a sum that is too large
abbrev pub later_answer : ℕ → Instant → Result Instant ParseError
later_answer microseconds instant =
    first_fault_or (sum_table microseconds instant) (Ok (later_instant microseconds instant))

-- the first second of the year 0000, and the last of the year 9999
abbrev pub first_second : ℤ
first_second = neg_ℤ (pos 62167219200)

abbrev pub last_second : ℤ
last_second = pos 253402300799

-- an instant lies in the years 0000 to 9999
abbrev pub IsInYears : Instant → Type 0
IsInYears instant =
    IsTrue (int_le first_second instant.second) × IsTrue (int_le instant.second last_second)

-- what an instant has to meet to lie in the years 0000 to 9999
abbrev pub range_table : Instant → List NumberRow
range_table instant =
    (int_le first_second instant.second else_fault ParseError.DateTooSmall)
    ∷ (int_le instant.second last_second else_fault ParseError.DateTooLarge)
    ∷ []

-- an instant, or the fault of one outside the years 0000 to 9999
abbrev pub range_answer : Instant → Result Instant ParseError
range_answer instant = first_fault_or (range_table instant) (Ok instant)

-- Decimal timestamps (Unix time): what they mean to the nearest microsecond, and how many digits a
-- text may have after its point.

-- the unit of a decimal timestamp: an inferred one goes by the whole decimal
abbrev pub decimal_row : TimestampUnit → DecimalParts → UnitRow
decimal_row unit decimal =
    unit_row unit (nat_le (decimal_digits decimal) (inferred_seconds_max * decimal_scale decimal))

-- a decimal timestamp in microseconds, with its sign: the numerator of a fraction whose denominator
-- is its scale
abbrev pub decimal_numerator : UnitRow → DecimalParts → ℤ
decimal_numerator row decimal =
    with_sign decimal.negative (decimal_digits decimal * row.microseconds)

-- the microseconds since 1970-01-01T00:00:00 that a decimal timestamp means, to the nearest
abbrev pub decimal_microsecond : UnitRow → DecimalParts → ℤ
decimal_microsecond row decimal = nearest (decimal_numerator row decimal) (decimal_scale decimal)

-- the instant that a decimal timestamp means, to the nearest microsecond
abbrev pub decimal_instant : UnitRow → DecimalParts → Instant
decimal_instant row decimal = instant_at (decimal_microsecond row decimal)

-- what the digits of a decimal in a text have to meet: they are counted if further ones are refused
abbrev pub digits_row : Behavior → UnitRow → DecimalParts → NumberRow
digits_row behavior row decimal =
    (refuses_digits behavior implies nat_le (length decimal.fraction) row.digits)
    else_fault row.too_long

-- the numbers of an instant
abbrev pub unix_instant : UnixTime → Instant
unix_instant time = record { second = time.second; microsecond = time.microsecond }

-- the row of a unit
abbrev pub unix_row : UnixUnit → UnitRow
unix_row unit =
    record { microseconds = unit.microseconds; digits = unit.digits; too_long = unit.too_long }
