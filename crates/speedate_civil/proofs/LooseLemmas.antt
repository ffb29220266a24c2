-- A date-time whose text has an offset or none, with the zone that may come after a blank.
use Rattle.std.proofs.Common.{◌≡◌, ◌∙◌, ap, sym, refl, rules, arith, codes, ℕ, ℤ, pos, ◌+◌, ◌==◌, ◌||◌, Bool, true, false, List, [], ◌∷◌, drop, length, slice_index, Option, Some, None, is_some, Result, Ok, Err, if◌then◌else◌}
use Rattle.speedate_civil.specs.Base.{Behavior, ParseError}
use Rattle.speedate_civil.specs.Calendar.{Ymd}
use Rattle.speedate_civil.specs.Date.{date_front}
use Rattle.speedate_civil.specs.DateTime.{DateAndTime, date_time_answer, date_time_front}
use Rattle.speedate_civil.specs.DateTime.{is_separator}
use Rattle.speedate_base.specs.Refused.{from_byte, placed}
use Rattle.std.proofs.lemmas.Bool.{or_parts}
use Rattle.std.proofs.lemmas.Bool.Decides.{nat_tests}
use Rattle.std.proofs.Math.Seq.{drop-length}
use Rattle.std.proofs.lemmas.List.{drop-drop}
use Rattle.speedate_base.proofs.RequirementLemmas.{with_no_more-iff}
use Rattle.speedate_base.specs.Requirement.{result_and_then, shifted}
use Rattle.speedate_civil.specs.Time.{Clock, TimeOfDay, clock_front, clock_with_offset, end_fault}
use Rattle.speedate_civil.specs.Time.{has_minus_sign, is_plus_or_minus, is_utc, offset_front}
use Rattle.speedate_civil.specs.Time.{signed_front}
use Rattle.speedate_base.specs.Ascii.{capital_p, hyphen}
use Rattle.speedate_base.specs.declared.refusal.Refused.{Refused}
use Rattle.speedate_civil.specs.Loose.{loose_answer, loose_value, with_late_zone, with_zone, zoned}
use Rattle.speedate_base.proofs.RefusalLemmas.{seen-read}
use Rattle.speedate_civil.specs.Loose.{begins_with, capital_a, capital_g, capital_u, is_half_day}
use Rattle.speedate_civil.specs.Loose.{late_zone, may_begin_zone, no_zone, or_half_day, signed_zone}
use Rattle.speedate_civil.specs.Loose.{small_a, small_p, utc_zone, zone_after_blank, zone_front}

-- an offset that the library reads after a sign is the zone there
signed_read : (start sign : ℕ) (west : Bool) (numbers : List ℕ) (zone : Option ℤ × ℕ)
    → signed_front west sign numbers ≡ Ok zone → signed_zone start west sign numbers ≡ Ok zone
unfolding signed_zone
signed_read start sign west numbers zone read = search rules

-- and it is there
some_read : (sign : ℕ) (west : Bool) (numbers : List ℕ) (zone : Option ℤ × ℕ)
    → signed_front west sign numbers ≡ Ok zone → is_some zone.0 ≡ true
some_read sign west numbers zone read = search rules

signed_some : (from sign : ℕ) (west : Bool) (numbers : List ℕ) (zone : Option ℤ × ℕ)
    → from_byte from (signed_front west sign numbers) ≡ Ok zone → is_some zone.0 ≡ true
signed_some from sign west numbers zone read =
    some_read sign west numbers zone
    (seen-read (shifted from placed) (signed_front west sign numbers) zone read)

-- the zone of a line by the offset that the library reads
abbrev or_other : Option ℤ × ℕ → Option (Option ℤ × ℕ) → Option (Option ℤ × ℕ)
or_other zone other = if is_some zone.0 then Some zone else other

-- an offset is the zone, and where there is none the zone is the late one
chosen : (start : ℕ) (zone : Option ℤ × ℕ) (other : Option (Option ℤ × ℕ))
    (answer : Result (Option ℤ × ℕ) Refused) → answer ≡ Ok zone → is_some zone.0 ≡ true
    → answer ≡ or_half_day start (or_other zone other)
chosen start zone other answer read some = read ∙ rw some refl

abbrev read_as : {A : Type 0} → A → Result A Refused
read_as value = Ok value

abbrev none : Option ℤ
none = None

value_of : {A : Type 0} (one other : A) → read_as one ≡ Ok other → one ≡ other
value_of one other same = cc

by_sign : (start : ℕ) (plus utc minus : Bool)
    (after after_minus there there_minus : Result (Option ℤ × ℕ) Refused)
    (other : Option (Option ℤ × ℕ)) (zone : Option ℤ × ℕ)
    → (after ≡ Ok zone → there ≡ or_half_day start (or_other zone other))
    → (after_minus ≡ Ok zone → there_minus ≡ or_half_day start (or_other zone other))
    → (if plus then after else if utc then Ok (Some (pos 0), 1)
    else if minus then after_minus else Ok (None, 0)) ≡ Ok zone
    → (if plus then there else if utc then Ok (utc_zone 1)
    else if minus then there_minus else or_half_day start other)
    ≡ or_half_day start (or_other zone other)
by_sign start true utc minus after after_minus there there_minus other zone one two read = one read
by_sign start false true minus after after_minus there there_minus other zone one two read =
    rw (← value_of (Some (pos 0), 1) zone read) refl
by_sign start false false true after after_minus there there_minus other zone one two read =
    two read
by_sign start false false false after after_minus there there_minus other zone one two read =
    rw (← value_of (None, 0) zone read) refl

signed_chosen : (at start from sign : ℕ) (west : Bool) (numbers : List ℕ) (zone : Option ℤ × ℕ)
    (other : Option (Option ℤ × ℕ))
    → from_byte from (signed_front west sign numbers) ≡ Ok zone
    → signed_zone start west sign numbers ≡ or_half_day at (or_other zone other)
signed_chosen at start from sign west numbers zone other read =
    let front = seen-read (shifted from placed) (signed_front west sign numbers) zone read in
    chosen at zone other (signed_zone start west sign numbers)
    (signed_read start sign west numbers zone front) (signed_some from sign west numbers zone read)

offset_read : (start : ℕ) (rest : List ℕ) (zone : Option ℤ × ℕ) → offset_front rest ≡ Ok zone
    → zone_front start rest ≡ or_half_day start (or_other zone (late_zone rest))
unfolding zone_front
offset_read start rest zone read =
    by_sign start (is_plus_or_minus (slice_index rest 0)) (is_utc (slice_index rest 0))
    (has_minus_sign rest) _ _ _ _ (late_zone rest) zone
    (signed_chosen start (start + 1) 1 1 (slice_index rest 0 == hyphen) (drop 1 rest) zone
    (late_zone rest))
    (signed_chosen start (start + 3) 3 3 true (drop 3 rest) zone (late_zone rest)) read

no_some : (size : ℕ) → is_some none ≡ true → size ≡ 0
no_some size some = cc

-- an offset that is not there takes nothing
none_by_sign : (plus utc minus : Bool) (after after_minus : Result (Option ℤ × ℕ) Refused)
    (size : ℕ) → (after ≡ Ok (None, size) → is_some none ≡ true)
    → (after_minus ≡ Ok (None, size) → is_some none ≡ true)
    → (if plus then after else if utc then Ok (Some (pos 0), 1)
    else if minus then after_minus else Ok (None, 0)) ≡ Ok (None, size) → size ≡ 0
none_by_sign true utc minus after after_minus size one two read = no_some size (one read)
none_by_sign false true minus after after_minus size one two read =
    let same = value_of (Some (pos 0), 1) (None, size) read in
    no_some size (sym (ap (λ (zone : Option ℤ × ℕ). is_some zone.0) same))
none_by_sign false false true after after_minus size one two read = no_some size (two read)
none_by_sign false false false after after_minus size one two read =
    ap (λ (zone : Option ℤ × ℕ). zone.1) (sym (value_of (None, 0) (None, size) read))

offset_none : (rest : List ℕ) (size : ℕ) → offset_front rest ≡ Ok (None, size) → size ≡ 0
offset_none rest size read =
    none_by_sign (is_plus_or_minus (slice_index rest 0)) (is_utc (slice_index rest 0))
    (has_minus_sign rest) _ _ size
    (signed_some 1 1 (slice_index rest 0 == hyphen) (drop 1 rest) (None, size))
    (signed_some 3 3 true (drop 3 rest) (None, size)) read

-- The steps of the library and of a line after a date, and after a clock.

abbrev dated : Ymd → TimeOfDay × ℕ → Result (DateAndTime × ℕ) Refused
dated date time = Ok (record { date = date; time = time.0 }, 11 + time.1)

abbrev timed : Clock → Option ℤ × ℕ → Result (TimeOfDay × ℕ) Refused
timed clock zone = Ok (clock_with_offset clock zone.0, clock.size + zone.1)

abbrev with_clock : Ymd → Clock → Result (Ymd × Clock) Refused
with_clock date clock = Ok (date, clock)

abbrev zoned_at : List ℕ → Ymd × Clock → Result (DateAndTime × ℕ) Refused
zoned_at text front =
    result_and_then (λ (zone : Option ℤ × ℕ). Ok (zoned front.0 front.1 zone))
    (zone_front (11 + front.1.size) (drop (11 + front.1.size) text))

abbrev zoned_by : Ymd → Clock → Result (Option ℤ × ℕ) Refused → Result (DateAndTime × ℕ) Refused
zoned_by date clock zone =
    result_and_then (λ (zone : Option ℤ × ℕ). Ok (zoned date clock zone)) zone

abbrev found_as : DateAndTime × ℕ → Option (DateAndTime × ℕ)
found_as front = Some front

same_found : (one other : DateAndTime × ℕ) → found_as one ≡ found_as other → one ≡ other
same_found one other same = cc

zoned_after : (start : ℕ) (date : Ymd) (clock : Clock) (other : Option (Option ℤ × ℕ))
    (found : DateAndTime × ℕ)
    → with_zone (record { date = date; time = clock_with_offset clock None }, 11 + clock.size) other
    ≡ Some found
    → zoned_by date clock (or_half_day start other) ≡ Ok found
zoned_after start date clock (Some zone) found is = ap Ok (same_found _ found is)
zoned_after start date clock None found is = cc

zoned_late : (text : List ℕ) (date : Ymd) (clock : Clock) (zone : Option ℤ × ℕ)
    (found : DateAndTime × ℕ)
    → offset_front (drop (11 + clock.size) text) ≡ Ok zone
    → with_late_zone text
    (record { date = date; time = clock_with_offset clock zone.0 }, 11 + (clock.size + zone.1))
    ≡ Some found
    → zoned_by date clock
    (or_half_day (11 + clock.size) (or_other zone (late_zone (drop (11 + clock.size) text))))
    ≡ Ok found
zoned_late text date clock (Some offset, size) found read is =
    let sum : (11 + clock.size) + size ≡ 11 + (clock.size + size) = omega arith in
    let time = clock_with_offset clock (Some offset) in
    ap (λ (n : ℕ). read_as (record { date = date; time = time }, n)) sum
    ∙ ap Ok (same_found _ found is)
zoned_late text date clock (None, size) found read is =
    let none : size ≡ 0 = offset_none (drop (11 + clock.size) text) size read in
    let after : 11 + (clock.size + size) ≡ 11 + clock.size = omega (arith, none) in
    zoned_after (11 + clock.size) date clock (late_zone (drop (11 + clock.size) text)) found
    (rw after at is)

after_clock : (text : List ℕ) (date : Ymd) (clock : Clock) (front found : DateAndTime × ℕ)
    (offset : Result (Option ℤ × ℕ) Refused)
    → offset_front (drop (11 + clock.size) text) ≡ offset
    → result_and_then (dated date)
    (from_byte 11 (result_and_then (timed clock) (from_byte clock.size offset))) ≡ Ok front
    → with_late_zone text front ≡ Some found
    → zoned_at text (date, clock) ≡ Ok found
after_clock text date clock front found (Ok zone) there read is =
    let zone_is = offset_read (11 + clock.size) (drop (11 + clock.size) text) zone there in
    let same = value_of _ _ read in
    rw zone_is (zoned_late text date clock zone found there (rw (← same) at is))
after_clock text date clock front found (Err refused) there read is = cc

-- The chain of both, over plain answers.

abbrev parted : {A : Type 0} → Bool → Result A Refused → Result A Refused
parted separated next =
    if separated then next else Err (placed ParseError.InvalidCharDateTimeSep 10)

abbrev library_chain : List ℕ → Result (Ymd × ℕ) Refused → Bool → Result Clock Refused
    → Result (DateAndTime × ℕ) Refused
library_chain text at_date separated at_clock =
    result_and_then (λ (date : Ymd × ℕ).
    result_and_then (dated date.0)
    (parted separated (from_byte 11 (result_and_then (λ (clock : Clock).
    result_and_then (timed clock)
    (from_byte clock.size (offset_front (drop clock.size (drop 11 text))))) at_clock))))
    at_date

abbrev line_chain : List ℕ → Result (Ymd × ℕ) Refused → Bool → Result Clock Refused
    → Result (DateAndTime × ℕ) Refused
line_chain text at_date separated at_clock =
    result_and_then (zoned_at text)
    (result_and_then (λ (date : Ymd × ℕ).
    result_and_then (λ (clock : Clock). with_clock date.0 clock)
    (parted separated (from_byte 11 at_clock)))
    at_date)

chained : (text : List ℕ) (at_date : Result (Ymd × ℕ) Refused) (separated : Bool)
    (at_clock : Result Clock Refused) (front found : DateAndTime × ℕ)
    → library_chain text at_date separated at_clock ≡ Ok front
    → with_late_zone text front ≡ Some found
    → line_chain text at_date separated at_clock ≡ Ok found
chained text (Ok date) true (Ok clock) front found read is =
    after_clock text date.0 clock front found _ refl (rw drop-drop at read) is
chained text (Ok date) true (Err refused) front found read is = cc
chained text (Ok date) false at_clock front found read is = cc
chained text (Err refused) separated at_clock front found read is = cc

-- a date-time that the library reads at the front of a text is the one of a line, but for a zone
-- after a blank
pub text_is_loose : (behavior : Behavior) (text : List ℕ) (front found : DateAndTime × ℕ)
    → date_time_front behavior text ≡ Ok front
    → with_late_zone text front ≡ Some found
    → loose_value behavior text ≡ Ok found
unfolding loose_value
text_is_loose behavior text front found read is =
    chained text (date_front text) (is_separator (slice_index text 10))
    (clock_front behavior (drop 11 text)) front found read is

-- no text begins with a word whose first byte is another
other_word : (byte first : ℕ) (bytes word : List ℕ) → (byte == first) ≡ false
    → begins_with (first ∷ word) (byte ∷ bytes) ≡ false
other_word byte first bytes word other =
    let turned : (first == byte) ≡ false = grind (arith, nat_tests) in
    rw turned refl

-- no zone and no half of the day comes after a blank if its first byte does not
pub no_zone_begins : (text : List ℕ) → may_begin_zone (slice_index text 0) ≡ false
    → zone_after_blank text ≡ Some no_zone
unfolding zone_after_blank is_half_day
no_zone_begins [] other = refl
no_zone_begins (byte ∷ bytes) other =
    let signs = is_plus_or_minus byte in
    let is : ℕ → Bool = λ first. byte == first in
    let to_pm = signs || is capital_g || is capital_u || is capital_a || is capital_p in
    let with_p = or_parts (to_pm || is small_a) (is small_p) other in
    let with_a = or_parts to_pm (is small_a) with_p.0 in
    let with_P = or_parts (signs || is capital_g || is capital_u || is capital_a) (is capital_p)
    with_a.0 in
    let with_A = or_parts (signs || is capital_g || is capital_u) (is capital_a) with_P.0 in
    let with_u = or_parts (signs || is capital_g) (is capital_u) with_A.0 in
    let with_g = or_parts signs (is capital_g) with_u.0 in
    let utc = other_word byte capital_u bytes (drop 1 (codes "UTC")) with_u.1 in
    let gmt = other_word byte capital_g bytes (drop 1 (codes "GMT")) with_g.1 in
    let first_half = other_word byte capital_a bytes (drop 1 (codes "AM")) with_A.1 in
    let second_half = other_word byte capital_p bytes (drop 1 (codes "PM")) with_P.1 in
    let first_small = other_word byte small_a bytes (drop 1 (codes "am")) with_a.1 in
    let second_small = other_word byte small_p bytes (drop 1 (codes "pm")) with_p.1 in
    rw (first_half, second_half, first_small, second_small, utc, gmt, with_g.0) refl

-- what a text is without a zone after a blank, it is with one

at_end : (text : List ℕ) → late_zone (drop (length text) text) ≡ Some no_zone
unfolding late_zone
at_end text = rw (drop-length text) refl

ended : (text : List ℕ) (value : DateAndTime)
    → with_late_zone text (value, length text) ≡ Some (value, length text)
ended text value = search (rules, at_end)

pub text_loosens : (behavior : Behavior) (text : List ℕ) (value : DateAndTime)
    → date_time_answer behavior text ≡ Ok value → loose_answer behavior text ≡ Ok value
text_loosens behavior text value read =
    let fault : DateAndTime → ParseError = λ read. end_fault read.time.offset in
    let front = (with_no_more-iff placed fault text (date_time_front behavior text) value).0 read in
    let loose = text_is_loose behavior text (value, length text) (value, length text) front
    (ended text value) in
    (with_no_more-iff placed fault text (loose_value behavior text) value).1 loose
