-- Where a text is read as a time or as a date-time, the places of the rows of RFC 3339 lie within
-- it.
use Rattle.std.proofs.Common.{◌≡◌, ◌≤◌, ◌<◌, ◌+◌, ◌==◌, ◌||◌, not, ℕ, List, length, drop, slice_index, true, false, Option, ℤ, IfOk, IfSome, Ok, refl, leb-true, ltb-true, subst, ap, rules, arith}
use Rattle.std.proofs.lemmas.Bool.{cases_lt}
use Rattle.std.proofs.lemmas.Bool.Decides.{nat_tests}
use Rattle.std.proofs.lemmas.List.{drop-drop, get_or-drop, get_or_past, length-drop}
use Rattle.speedate_base.specs.Ascii.{colon, comma}
use Rattle.speedate_base.specs.Requirement.{first_place, moved}
use Rattle.speedate_base.proofs.RequirementLemmas.{AreWithin, are_within-moved, first_place-within}
use Rattle.speedate_base.proofs.RequirementLemmas.{with_no_more-iff}
use Rattle.speedate_civil.specs.Base.{Behavior}
use Rattle.speedate_civil.specs.Date.{date_front}
use Rattle.speedate_civil.specs.DateTime.{DateAndTime, date_time_answer}
use Rattle.speedate_civil.specs.DateTime.{date_time_front, separator_table}
use Rattle.speedate_civil.specs.Strict.{offset_place, strict_date_time, strict_time}
use Rattle.speedate_civil.specs.Time.{Clock, TimeOfDay, clock_front, end_fault, has_minus_sign}
use Rattle.speedate_civil.specs.Time.{is_utc, offset_digits, offset_front, offset_ranges}
use Rattle.speedate_civil.specs.Time.{time_answer, time_front}
use Rattle.speedate_civil.proofs.FrontLemmas.{clock-read, clock-size}
use Rattle.speedate_civil.proofs.OffsetLemmas.{offset-cases}
use Rattle.speedate_base.proofs.RefusalLemmas.{refusal-ok}
use Rattle.speedate_civil.proofs.ReadLemmas.{read-rows, read-then, read-value}
use Rattle.speedate_base.proofs.RefusalLemmas.{seen-read}
use Rattle.speedate_base.specs.Refused.{first_refused_or, from_byte, placed}
use Rattle.speedate_base.specs.Requirement.{shifted}
use Rattle.speedate_civil.proofs.ReadLemmas.{read-part}

-- a comma stands within its text
comma-there : (text : List ℕ) → not (slice_index text 8 == comma) ≡ false → 8 ≤ length text
comma-there text fails = grind (arith, nat_tests, cases_lt, get_or_past)

-- the offset of a time with a second stands after its clock
offset_place-is : (behavior : Behavior) (text : List ℕ) (clock : Clock)
    → clock_front behavior text ≡ Ok clock
    → (slice_index text 5 == colon) ≡ true
    → not (slice_index text 8 == comma) ≡ true → clock.size ≡ offset_place text
offset_place-is behavior text clock read second plain =
    let size = clock-size behavior text clock read in
    search (rules, get_or-drop, drop-drop)

-- an offset that is neither `Z` nor has its `:` goes on after its hour
abbrev IsLong : List ℕ → Type 0
IsLong rest = 0 < length rest → not (has_minus_sign rest) ≡ true
    → (is_utc (slice_index rest 0) || (slice_index rest 3 == colon)) ≡ false → 3 ≤ length rest

-- one that takes all bytes does
abbrev WholeIsLong : List ℕ → Option ℤ × ℕ → Type 0
WholeIsLong rest front = front.1 ≡ length rest → IsLong rest

-- and so does each offset that is read
offset-long : (rest : List ℕ) → IfOk (offset_front rest) (WholeIsLong rest)
offset-long rest =
    offset-cases (WholeIsLong rest) rest
    (λ some. read-rows _ (offset_digits (drop 1 rest)) _ (λ digits.
    read-rows _ (offset_ranges (drop 1 rest)) _ (λ ranges whole long plain fails. search rules)))
    (λ none utc whole long plain fails. absurd (cc))
    (λ none other there. read-rows _ (offset_digits (drop 3 rest)) _ (λ digits.
    read-rows _ (offset_ranges (drop 3 rest)) _ (λ ranges whole long plain fails. search rules)))
    (λ none other nothing whole long plain fails. absurd (omega (arith, whole, long)))

-- also at the end of a time
ending-long : (text : List ℕ) (size : ℕ) (offset : Option ℤ × ℕ) → size ≡ offset_place text
    → offset_front (drop size text) ≡ Ok offset → offset.1 ≡ length (drop size text)
    → IsLong (drop (offset_place text) text)
ending-long text size offset place after whole = search (rules, read-value, offset-long)

rows-within : (behavior : Behavior) (text : List ℕ)
    → IfOk (time_front behavior text)
    (λ front. front.1 ≡ length text → AreWithin (length text) (strict_time text))
rows-within behavior text =
    read-then _ _ (clock_front behavior text) (λ clock read.
    read-part _ _ _ (offset_front (drop clock.size text)) (λ offset after whole.
    let hour = (clock-read behavior text clock read).hour in
    let left = length-drop clock.size text in
    let all : offset.1 ≡ length (drop clock.size text) = omega (arith, whole, left) in (
      λ fails. leb-true 5 (length text) hour.0,
      λ second. (
        comma-there text,
        λ plain. let place = offset_place-is behavior text clock read second plain in (
          λ fails. omega (arith, place, whole),
          λ some. (
            λ fails. omega (arith, place, whole),
            λ no_minus. (
              λ fails.
                  let long = ending-long text clock.size offset place after all in
                  let there = ltb-true 0 (length (drop (offset_place text) text)) some in
                  let three = long there no_minus fails in
                  let same = ap (λ (at : ℕ). length (drop at text)) place in
                  omega (arith, place, whole, left, three, same),
              λ part. tt,
            ),
          ),
        ),
      ),
    )))

pub strict-within : (behavior : Behavior) (text : List ℕ) (time : TimeOfDay)
    → time_answer behavior text ≡ Ok time
    → IfSome (first_place (strict_time text)) (λ place. place ≤ length text)
strict-within behavior text time read =
    let fault = λ (value : TimeOfDay). end_fault value.offset in
    let whole = (with_no_more-iff placed fault text (time_front behavior text) time).0 read in
    grind (arith, nat_tests, read-value, rows-within, first_place-within)

date_time-rows-within : (behavior : Behavior) (text : List ℕ)
    → IfOk (date_time_front behavior text)
    (λ front. front.1 ≡ length text → AreWithin (length text) (strict_date_time text))
date_time-rows-within behavior text =
    let rest : List ℕ = drop 11 text in
    let table = separator_table text in
    let answer = time_front behavior rest in
    read-then _ _ (date_front text) (λ date dated.
    read-then _ _ (first_refused_or table (from_byte 11 answer)) (λ time timed whole.
    let after = (refusal-ok placed table (from_byte 11 answer) time timed).1 in
    let read = seen-read (shifted 11 placed) answer time after in
    let size : 11 + length rest ≡ length text = omega (arith, whole, length-drop 11 text) in
    let all : time.1 ≡ length rest = omega (arith, whole, size) in
    let rows = read-value _ _ time read (rows-within behavior rest) all in
    let later = are_within-moved 11 (length rest) (strict_time rest) rows in
    let Within = λ (size : ℕ). AreWithin size (moved 11 (strict_time rest)) in
    (λ fails. omega (arith, size), λ letter. subst Within size later)))

pub strict_date_time-within : (behavior : Behavior) (text : List ℕ) (value : DateAndTime)
    → date_time_answer behavior text ≡ Ok value
    → IfSome (first_place (strict_date_time text)) (λ place. place ≤ length text)
strict_date_time-within behavior text value read =
    let fault = λ (found : DateAndTime). end_fault found.time.offset in
    let whole = (with_no_more-iff placed fault text (date_time_front behavior text) value).0 read in
    let within = date_time-rows-within behavior text in
    let rows = read-value _ _ (value, length text) whole within refl in
    first_place-within (length text) (strict_date_time text) rows
