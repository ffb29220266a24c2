-- Values and durations in print, with the digits of their nanosecond.
use Rattle.std.specs.Prelude.{ℕ, ℤ, pos, ◌+◌, ◌*◌, ◌-◌, ◌/◌, ◌%◌, ◌==◌, ◌-ℤ◌, List, [], ◌∷◌, ◌++◌, length, take, drop, unsigned_abs, if◌then◌else◌}
use Rattle.std.specs.Int.{int_rem_euclid, saturate_signed, w128}
use Rattle.std.specs.Result.{result_unwrap_or}
use Rattle.speedate.specs.Ascii.{capital_s, full_stop}
use Rattle.speedate.specs.DateTime.{DateAndTime, date_time_text_with}
use Rattle.speedate.specs.Duration.{amount_answer, duration_text}
use Rattle.speedate.specs.Requirement.{result_map}
use Rattle.speedate.specs.declared.FractionDigits.{FractionDigits}
use Rattle.speedate_scan.specs.Print.{nine_digits}

-- the nanoseconds of an instant past its second
abbrev pub past_second : ℤ → ℕ
past_second instant = unsigned_abs (int_rem_euclid instant (pos 1000000000))

-- with how many digits a nanosecond is printed that has none of its own: none, six or nine
abbrev pub digits_needed : ℕ → ℕ
digits_needed nanosecond =
    if nanosecond == 0 then 0 else if nanosecond % 1000 == 0 then 6 else 9

-- a date-time in print without a fraction, with so many digits of a nanosecond after its second
abbrev pub with_fraction : List ℕ → ℕ → ℕ → List ℕ
with_fraction text count nanosecond =
    take 19 text ++ full_stop ∷ take count (nine_digits nanosecond) ++ drop 19 text

-- a date-time in print, with so many digits of a nanosecond after its second
unfoldable pub date_time_with : ℕ → ℕ → DateAndTime → List ℕ
date_time_with count nanosecond value =
    let text = date_time_text_with FractionDigits.Zero value in
    if count == 0 then text else with_fraction text count nanosecond

-- the nanoseconds from one instant to another: those beyond 128 bits are the nearest that fit them
abbrev pub distance : ℤ → ℤ → ℤ
distance from to = saturate_signed w128 (to -ℤ from)

-- how many nanoseconds two instants are apart
abbrev pub apart : ℤ → ℤ → ℕ
apart first second = unsigned_abs (first -ℤ second)

-- a duration of so many microseconds in print; nothing if it has too many days
unfoldable pub microseconds_text : ℕ → List ℕ
microseconds_text amount =
    result_unwrap_or (result_map duration_text (amount_answer (pos amount))) []

-- a duration in print that ends with a fraction of six digits, as `PT4.000001S`, with nine others
unfoldable pub with_nine_digits : List ℕ → ℕ → List ℕ
with_nine_digits text nanosecond =
    take (length text - 7) text ++ take 9 (nine_digits nanosecond) ++ capital_s ∷ []

-- a duration of so many seconds and nanoseconds in print, with nine digits; nothing if it has too
-- many days
abbrev pub seconds_text : ℕ → ℕ → List ℕ
seconds_text seconds nanosecond =
    result_unwrap_or
    (result_map (λ numbers. with_nine_digits (duration_text numbers) nanosecond)
    (amount_answer (pos (1000000 * seconds + 1)))) []

-- a duration of so many nanoseconds in print, with nine digits if they are not whole microseconds
unfoldable pub nanoseconds_text : ℕ → List ℕ
nanoseconds_text amount =
    if amount % 1000 == 0 then microseconds_text (amount / 1000)
    else seconds_text (amount / 1000000000) (amount % 1000000000)

-- the duration between two instants in print
abbrev pub duration_between : ℤ → ℤ → List ℕ
duration_between first second = nanoseconds_text (apart first second)
