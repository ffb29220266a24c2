-- A printed clock is read as itself, from its minute on.
use Rattle.std.proofs.Common.{◌≡◌, ℕ, ◌+◌, ◌<◌, ◌≤◌, Bool, true, false, List, ◌∷◌, ◌++◌, length, nat_le, slice_index, Ok, rules, arith}
use Rattle.speedate_civil.specs.Base.{Behavior}
use Rattle.std.proofs.lemmas.Grind.{common_steps}
use Rattle.std.specs.Char.{is_ascii_digit}
use Rattle.std.specs.List.{list_all}
use Rattle.std.proofs.Math.Seq.{take-append_seam}
use Rattle.speedate_base.specs.Ascii.{full_stop}
use Rattle.speedate_base.specs.Digits.{run_length, fraction_value, six_digit_text, is_decimal_mark}
use Rattle.speedate_base.specs.Config.{refuses_digits}
use Rattle.speedate_base.specs.Requirement.{◌implies◌}
use Rattle.speedate_civil.specs.Time.{clock_answer, minute_text}
use Rattle.speedate_base.proofs.DigitRunLemmas.{run_length-append}
use Rattle.speedate_base.proofs.DigitLemmas.{two_digits-printed, two_digit_value-printed}
use Rattle.speedate_base.proofs.DigitLemmas.{six_digits-printed, fraction_value-printed}

-- without a fraction, whatever follows that is no decimal mark
pub clock-whole : (behavior : Behavior) (minute second : ℕ) (tail : List ℕ)
    → minute ≤ 59 → second ≤ 59 → is_decimal_mark (slice_index tail 0) ≡ false
    → clock_answer behavior (minute_text minute second ++ tail)
    ≡ Ok (record { hour = 0; minute = minute; second = second; microsecond = 0; size = 5 })
clock-whole behavior minute second tail small_minute small_second plain = search rules

-- where no digit stands, none follows
pub run_length-none : (tail : List ℕ) → is_ascii_digit (slice_index tail 0) ≡ false
    → run_length tail 0 ≡ 0
run_length-none tail other = grind (arith, common_steps)

few-holds : (refuses : Bool) (count : ℕ) → (refuses ≡ true → count ≤ 6)
    → (refuses implies nat_le count 6) ≡ true
few-holds refuses count few = search rules

-- a fraction of any digits is read as it
pub clock-secfrac : (behavior : Behavior) (minute second : ℕ) (digits tail : List ℕ) → minute ≤ 59
    → second ≤ 59
    → list_all is_ascii_digit digits ≡ true → 1 ≤ length digits
    → (refuses_digits behavior ≡ true → length digits ≤ 6)
    → is_ascii_digit (slice_index tail 0) ≡ false
    → clock_answer behavior (minute_text minute second ++ full_stop ∷ digits ++ tail)
    ≡ Ok (record {
      hour = 0;
      minute = minute;
      second = second;
      microsecond = fraction_value 6 digits;
      size = 6 + length digits;
    })
clock-secfrac behavior minute second digits tail small_minute small_second all some few other =
    grind (
      arith,
      common_steps,
      run_length-append,
      run_length-none,
      take-append_seam,
      two_digit_value-printed,
      two_digits-printed,
      few-holds,
    )

-- and so is one of six digits
pub clock-fraction : (behavior : Behavior) (minute second microsecond : ℕ) (tail : List ℕ)
    → minute ≤ 59 → second ≤ 59 → microsecond < 1000000
    → is_ascii_digit (slice_index tail 0) ≡ false
    → clock_answer behavior (minute_text minute second ++ full_stop ∷ six_digit_text microsecond
    ++ tail)
    ≡ Ok (record {
      hour = 0;
      minute = minute;
      second = second;
      microsecond = microsecond;
      size = 12;
    })
clock-fraction behavior minute second microsecond tail small_minute small_second small other =
    search (rules, six_digits-printed, fraction_value-printed, clock-secfrac)
