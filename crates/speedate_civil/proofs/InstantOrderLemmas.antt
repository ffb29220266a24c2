-- Laws of the order by instants: it is total, among values with offsets and among those without,
-- but across both it is not transitive; and without offsets it is the order of the texts.
use Rattle.std.proofs.Common.{◌≡◌, ℕ, ◌<◌, Bool, true, false, ◌&&◌, List, ◌∷◌, ◌++◌, ◌==◌, ℤ, neg_ℤ, pos, Option, Some, None, refl, is_some, nat_cmp, Ordering, rules, arith, ◌∙◌, ap, sym}
use Rattle.std.specs.Cmp.{IsTotalOrder, on_total}
use Rattle.std.specs.Cmp.Lexicographic.{slice_cmp}
use Rattle.std.specs.Ordering.{ordering_then, ordering_reverse, on}
use Rattle.std.proofs.lemmas.Bool.Decides.{nat_tests}
use Rattle.std.proofs.lemmas.Int.{ints}
use Rattle.std.proofs.Math.Bool.{and_comm}
use Rattle.speedate_base.specs.Ascii.{capital_t}
use Rattle.speedate_base.specs.Timestamp.{seconds_per_day, Instant, instant_order}
use Rattle.speedate_civil.specs.Time.{fraction_text, TimeOfDay, IsTime, minute_time, second_of_day}
use Rattle.speedate_civil.specs.Time.{time_text, time_instant, time_instant_order, clock_text}
use Rattle.speedate_civil.specs.Time.{FractionDigits, fraction_text_with, cut_microsecond}
use Rattle.speedate_civil.specs.DateTime.{DateAndTime, IsDateAndTime, date_time_text}
use Rattle.speedate_civil.specs.DateTime.{date_time_instant, date_time_instant_order}
use Rattle.speedate_civil.specs.DateTime.{cut_date_time, date_time_text_with}
use Rattle.speedate_civil.specs.Instant.{by_instant, BothOrNeither, IsNotAfter, IsBeforeNextOnly}
use Rattle.speedate_civil.specs.Calendar.{Ymd, date_order}
use Rattle.speedate_civil.specs.Date.{date_text}
use Rattle.speedate_civil.proofs.DateOrderLemmas.{date_order-day_number, date_text-front-order}
use Rattle.speedate_civil.proofs.DateOrderLemmas.{digits-order, hundreds-order, last-order}
use Rattle.speedate_civil.proofs.DateOrderLemmas.{then-then}
use Rattle.speedate_civil.proofs.TextOrderLemmas.{same-order}

-- instants are ordered one after another
pub instant_order-total : IsTotalOrder instant_order
instant_order-total = search rules

-- a clock's hours, minutes and seconds are ordered as its second of the day
clock-order : (first second : TimeOfDay) → IsTime first → IsTime second → (next : Ordering)
    → ordering_then (nat_cmp first.hour second.hour)
    (ordering_then (nat_cmp first.minute second.minute)
    (ordering_then (nat_cmp first.second second.second) next))
    ≡ ordering_then (nat_cmp (second_of_day first) (second_of_day second)) next
clock-order first second one two next = search rules

-- what clocks show of times is ordered as the second of the day and the microsecond
time_instant-order : (first second : TimeOfDay)
    → on (time_instant false) instant_order first second
    ≡ ordering_then (nat_cmp (second_of_day first) (second_of_day second))
    (nat_cmp first.microsecond second.microsecond)
time_instant-order first second = grind arith

-- what clocks show of date-times is ordered as the dates, and then as the times
pub date_time_instant-order : (first second : DateAndTime) → IsDateAndTime first
    → IsDateAndTime second
    → on (date_time_instant false) instant_order first second
    ≡ ordering_then (date_order first.date second.date)
    (on (time_instant false) instant_order first.time second.time)
date_time_instant-order first second one two =
    let small : second_of_day first.time < seconds_per_day = omega (
      arith,
      one.time.hour,
      one.time.minute,
      one.time.second,
    ) in
    let little : second_of_day second.time < seconds_per_day = omega (
      arith,
      two.time.hour,
      two.time.minute,
      two.time.second,
    ) in
    let dates = date_order-day_number first.date second.date one.date.day two.date.day in
    rw dates (grind (arith, ints, nat_tests))

-- at one offset the instants in UTC are ordered as clocks show them
date_time_instant-shifted : (first second : DateAndTime) → first.time.offset ≡ second.time.offset
    → on (date_time_instant true) instant_order first second
    ≡ on (date_time_instant false) instant_order first second
date_time_instant-shifted first second same = rw same (grind (arith, ints))

-- so clocks show the order of date-times at one offset, or of which one has none
pub date_time_instant_order-clocks : (first second : DateAndTime)
    → ((is_some first.time.offset && is_some second.time.offset) ≡ true
    → first.time.offset ≡ second.time.offset)
    → date_time_instant_order first second ≡ on (date_time_instant false) instant_order first second
date_time_instant_order-clocks first second = search (rules, date_time_instant-shifted)

-- two printed fractions are ordered as the microseconds
fractions-order : (first second : ℕ) (one two : Bool) → (first == 0) ≡ one → (second == 0) ≡ two
    → slice_cmp nat_cmp (fraction_text first) (fraction_text second) ≡ nat_cmp first second
fractions-order first second one two first_is second_is = grind (arith, nat_tests)

-- without offsets times are ordered as their texts
pub time_text-order : (first second : TimeOfDay) → IsTime first → IsTime second
    → first.offset ≡ None → second.offset ≡ None
    → time_instant_order first second ≡ slice_cmp nat_cmp (time_text first) (time_text second)
time_text-order first second one two none nothing =
    grind (arith, ints, digits-order, clock-order, time_instant-order, fractions-order)

-- and so are date-times
pub date_time_text-order : (first second : DateAndTime) → IsDateAndTime first
    → IsDateAndTime second → first.time.offset ≡ None → second.time.offset ≡ None
    → date_time_instant_order first second
    ≡ slice_cmp nat_cmp (date_time_text first) (date_time_text second)
date_time_text-order first second one two none nothing =
    let text = capital_t ∷ time_text first.time in
    let other = capital_t ∷ time_text second.time in
    let times = time_text-order first.time second.time one.time two.time none nothing in
    let own_times = on (time_instant false) instant_order first.time second.time in
    let own = on (date_time_instant false) instant_order first second in
    let shown : time_instant_order first.time second.time ≡ own_times = rw none refl in
    let all : date_time_instant_order first second ≡ own = rw none refl in
    all
    ∙ date_time_instant-order first second one two
    ∙ ap (ordering_then (date_order first.date second.date)) (sym shown ∙ times)
    ∙ sym (date_text-front-order first.date second.date text other)

cut_second : (value : DateAndTime) → IsDateAndTime value
    → IsDateAndTime (cut_date_time FractionDigits.Zero value)
cut_second value valid = search rules

-- texts that begin with clocks are ordered as the second of the day, and then as what follows
clock_text-front-order : (first second : TimeOfDay) → IsTime first → IsTime second
    → (one two : List ℕ)
    → slice_cmp nat_cmp (clock_text first ++ one) (clock_text second ++ two)
    ≡ ordering_then (nat_cmp (second_of_day first) (second_of_day second))
    (slice_cmp nat_cmp one two)
clock_text-front-order first second valid other one two =
    simp (digits-order) (clock-order first second valid other (slice_cmp nat_cmp one two))

-- up to the second date-times at one offset are ordered as the dates and then as the clocks
seconds-order : (first second : DateAndTime) → IsDateAndTime first → IsDateAndTime second
    → first.time.offset ≡ second.time.offset
    → date_time_instant_order (cut_date_time FractionDigits.Zero first)
    (cut_date_time FractionDigits.Zero second)
    ≡ ordering_then (date_order first.date second.date)
    (nat_cmp (second_of_day first.time) (second_of_day second.time))
seconds-order first second valid other same =
    let one = cut_date_time FractionDigits.Zero first in
    let two = cut_date_time FractionDigits.Zero second in
    date_time_instant_order-clocks one two (λ both. same)
    ∙ date_time_instant-order one two (cut_second first valid) (cut_second second other)
    ∙ ap (ordering_then (date_order first.date second.date))
    (time_instant-order one.time two.time
    ∙ last-order (nat_cmp (second_of_day first.time) (second_of_day second.time)))

-- texts that begin with date-times at one offset up to the second are ordered as those, and then as
-- what follows
pub date_time-front-order : (first second : DateAndTime) → IsDateAndTime first
    → IsDateAndTime second → first.time.offset ≡ second.time.offset → (one two : List ℕ)
    → slice_cmp nat_cmp (date_text first.date ++ capital_t ∷ clock_text first.time ++ one)
    (date_text second.date ++ capital_t ∷ clock_text second.time ++ two)
    ≡ ordering_then (date_time_instant_order (cut_date_time FractionDigits.Zero first)
    (cut_date_time FractionDigits.Zero second)) (slice_cmp nat_cmp one two)
date_time-front-order first second valid other same one two =
    let text = capital_t ∷ clock_text first.time ++ one in
    let more = capital_t ∷ clock_text second.time ++ two in
    let next = slice_cmp nat_cmp one two in
    let dates = date_order first.date second.date in
    date_text-front-order first.date second.date text more
    ∙ ap (ordering_then dates)
    (clock_text-front-order first.time second.time valid.time other.time one two)
    ∙ sym (then-then dates (nat_cmp (second_of_day first.time) (second_of_day second.time)) next)
    ∙ ap (λ order. ordering_then order next)
    (sym (seconds-order first second valid other same))

-- fractions with the same digits before the same text are ordered as the microseconds rounded down
fractions_with-order : (digits : FractionDigits) (first second : ℕ) (rest : List ℕ)
    → slice_cmp nat_cmp (fraction_text_with digits first ++ rest)
    (fraction_text_with digits second ++ rest)
    ≡ nat_cmp (cut_microsecond digits first) (cut_microsecond digits second)
fractions_with-order digits first second rest =
    grind (arith, nat_tests, same-order, digits-order, hundreds-order)

-- at one offset texts with a number of digits are ordered as the date-times rounded down to these
pub date_time_text_with-order : (digits : FractionDigits) (first second : DateAndTime)
    → IsDateAndTime first → IsDateAndTime second → first.time.offset ≡ second.time.offset
    → slice_cmp nat_cmp (date_time_text_with digits first) (date_time_text_with digits second)
    ≡ date_time_instant_order (cut_date_time digits first) (cut_date_time digits second)
date_time_text_with-order digits first second valid other same =
    search (rules, fractions_with-order, date_time-front-order, last-order)

-- "not after" is transitive in a total order
chain : {K : Type 0} {order : K → K → Ordering} → IsTotalOrder order → (first second third : K)
    → IsNotAfter (order first second) → IsNotAfter (order second third)
    → IsNotAfter (order first third)
chain total first second third one two = search rules

-- an order by instants is total among values with offsets, and among those without
module _ {K : Type 0} (offset : K → Option ℤ) (instant : Bool → K → Instant) where
  total : (is_utc : Bool) → IsTotalOrder (on (instant is_utc) instant_order)
  total is_utc = on_total (instant is_utc) instant_order-total

  -- values the other way round are ordered the other way round
  pub by_instant-reversed : (first second : K)
      → by_instant offset instant second first
      ≡ ordering_reverse (by_instant offset instant first second)
  by_instant-reversed first second =
      let one = is_some (offset first) in
      let two = is_some (offset second) in
      ap (λ (is_utc : Bool). on (instant is_utc) instant_order second first) (and_comm two one)
      ∙ (total (one && two)).antisymm second first

  -- and of three values that are alike the first is not after the last, where it is not after the
  -- next, and that not after the last
  pub by_instant-transitive : (first second third : K)
      → BothOrNeither (offset first) (offset second) → BothOrNeither (offset second) (offset third)
      → IsNotAfter (by_instant offset instant first second)
      → IsNotAfter (by_instant offset instant second third)
      → IsNotAfter (by_instant offset instant first third)
  by_instant-transitive first second third =
      chained (is_some (offset first)) (is_some (offset second)) (is_some (offset third))
    where
      chained : (a b c : Bool) → a ≡ b → b ≡ c
          → IsNotAfter (on (instant (a && b)) instant_order first second)
          → IsNotAfter (on (instant (b && c)) instant_order second third)
          → IsNotAfter (on (instant (a && c)) instant_order first third)
      chained true true true one two = chain (total true) first second third
      chained false false c one two = chain (total false) first second third
      chained true true false one two = absurd (cc)
      chained true false c one two = absurd (cc)
      chained false true c one two = absurd (cc)

-- across values with an offset and without it is not transitive: 00:00:00-01:00 is before 00:30:00,
-- and that is before 01:00:00Z, which is equal to the first
pub time_instant_order-across : IsBeforeNextOnly time_instant_order
    (minute_time 0 0 (Some (neg_ℤ (pos 3600)))) (minute_time 0 30 None)
    (minute_time 1 0 (Some (pos 0)))
time_instant_order-across = (refl, refl, refl)

-- nor on any date
pub date_time_instant_order-across : (date : Ymd) → IsBeforeNextOnly date_time_instant_order
    (record { date = date; time = minute_time 0 0 (Some (neg_ℤ (pos 3600))) })
    (record { date = date; time = minute_time 0 30 None })
    (record { date = date; time = minute_time 1 0 (Some (pos 0)) })
date_time_instant_order-across date =
    (grind (arith, ints, nat_tests), grind (arith, ints, nat_tests), grind (arith, ints, nat_tests))
