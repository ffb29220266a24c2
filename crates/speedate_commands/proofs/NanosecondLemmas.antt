-- Date-times with so many digits of a nanosecond are ordered as their texts.
use Rattle.std.proofs.Common.{◌≡◌, ℕ, Bool, true, false, ◌==◌, if◌then◌else◌, ◌-◌, ◌/◌, ◌^◌, ◌<◌, ◌≤◌, List, ◌∷◌, ◌++◌, take, nat_cmp, Ordering, refl, arith, ◌∙◌, ap, sym}
use Rattle.std.specs.Cmp.Lexicographic.{slice_cmp}
use Rattle.std.specs.Ordering.{ordering_then}
use Rattle.std.proofs.lemmas.Bool.Decides.{nat_tests}
use Rattle.speedate.specs.Ascii.{full_stop}
use Rattle.speedate.specs.DateTime.{DateAndTime, IsDateAndTime, cut_date_time}
use Rattle.speedate.specs.DateTime.{date_time_instant_order, date_time_text_with}
use Rattle.speedate.specs.Time.{offset_text}
use Rattle.speedate.specs.declared.FractionDigits.{FractionDigits}
use Rattle.speedate_civil.proofs.InstantOrderLemmas.{date_time-front-order}
use Rattle.speedate_civil.proofs.InstantOrderLemmas.{date_time_text_with-order}
use Rattle.speedate_civil.proofs.DateOrderLemmas.{last-order}
use Rattle.speedate_civil.proofs.TextOrderLemmas.{append-order, in_digits-front-order, same-order}
use Rattle.speedate_scan.specs.Print.{nine_digits}
unfoldable use Rattle.speedate_commands.specs.Nanosecond.{date_time_with}
use Rattle.speedate_commands.specs.Nanosecond.{with_fraction}

-- a date-time with some digits, and with none
pub with_digits : (count nanosecond : ℕ) (value : DateAndTime) → (count ≡ 0 → ⊥)
    → with_fraction (date_time_text_with FractionDigits.Zero value) count nanosecond
    ≡ date_time_with count nanosecond value
unfolding date_time_with
with_digits count nanosecond value some =
    let is : (count == 0) ≡ false = grind (arith, nat_tests) in
    rw is refl

pub without_digits : (count nanosecond : ℕ) (value : DateAndTime) → count ≡ 0
    → date_time_text_with FractionDigits.Zero value ≡ date_time_with count nanosecond value
unfolding date_time_with
without_digits count nanosecond value none = rw none refl

-- two date-times at one offset, the nanoseconds of both, and how many digits of these are printed
module _ (first second : DateAndTime) (valid : IsDateAndTime first) (right : IsDateAndTime second)
    (same : first.time.offset ≡ second.time.offset) (nanosecond other count : ℕ)
    (small : nanosecond < 1000000000) (less : other < 1000000000) (most : count ≤ 9) where
  seconds_order : Ordering
  seconds_order = date_time_instant_order (cut_date_time FractionDigits.Zero first)
      (cut_date_time FractionDigits.Zero second)

  -- their texts are ordered as the values without their fraction, and then as these digits
  chosen-order : (none : Bool) → (count == 0) ≡ none
      → (let text = date_time_text_with FractionDigits.Zero first in
      let more = date_time_text_with FractionDigits.Zero second in
      slice_cmp nat_cmp (if none then text else with_fraction text count nanosecond)
      (if none then more else with_fraction more count other)
      ≡ ordering_then seconds_order
      (nat_cmp (nanosecond / 10 ^ (9 - count)) (other / 10 ^ (9 - count))))
  unfolding seconds_order
  chosen-order true is =
      let zero : count ≡ 0 = grind (arith, nat_tests) in
      let none : nanosecond / 1000000000 ≡ 0 = omega (arith, small) in
      let nothing : other / 1000000000 ≡ 0 = omega (arith, less) in
      date_time_text_with-order FractionDigits.Zero first second valid right same
      ∙ sym (last-order seconds_order)
      ∙ rw (zero, none, nothing) refl
  chosen-order false is =
      let one = take count (nine_digits nanosecond) in
      let two = take count (nine_digits other) in
      let rest = offset_text second.time.offset in
      date_time-front-order first second valid right same
      (full_stop ∷ one ++ offset_text first.time.offset) (full_stop ∷ two ++ rest)
      ∙ ap (ordering_then seconds_order)
      (ap (λ offset. slice_cmp nat_cmp (one ++ offset_text offset) (two ++ rest)) same
      ∙ in_digits-front-order (9 - count) count 9 nanosecond other rest (omega (arith, most)) small
      less (omega arith))

  -- and so is what they are appended to, with them
  pub pushed-order : (before items : List ℕ)
      → items ≡ before ++ date_time_with count nanosecond first
      → slice_cmp nat_cmp items (before ++ date_time_with count other second)
      ≡ ordering_then (date_time_instant_order (cut_date_time FractionDigits.Zero first)
      (cut_date_time FractionDigits.Zero second))
      (nat_cmp (nanosecond / 10 ^ (9 - count)) (other / 10 ^ (9 - count)))
  unfolding date_time_with seconds_order
  pushed-order before items is =
      let text = date_time_with count nanosecond first in
      let more = date_time_with count other second in
      ap (λ list. slice_cmp nat_cmp list (before ++ more)) is
      ∙ append-order before before text more refl
      ∙ ap (λ order. ordering_then order (slice_cmp nat_cmp text more)) (same-order before)
      ∙ chosen-order (count == 0) refl
