-- The texts of RFC 3339 by its rules are those that the strict readers take.
use Rattle.std.proofs.Common.{◌≡◌, ◌⊎◌, ℕ, ◌+◌, ◌*◌, ◌≤◌, zero, suc, Bool, true, false, ◌==◌, List}
use Rattle.std.proofs.Common.{[], ◌∷◌, ◌++◌, length, take, drop, nat_le, nat_lt, slice_index}
use Rattle.std.proofs.Common.{Option, Some, ℤ, pos, IfOk, Result, Ok, refl, ◌↔◌, rules, arith, ap}
use Rattle.std.proofs.Common.{subst, sym, ◌∙◌, inl, inr, leb-true, ltb-true, eqb-true, get_or-drop}
use Rattle.std.proofs.Common.{length-append, length-drop, length-take-le, take_all}
use Rattle.std.proofs.Common.{take-append-drop, IsOk}
use Rattle.speedate_civil.specs.Base.{Behavior, ParseError}
use Rattle.std.specs.Char.{is_ascii_digit}
use Rattle.std.specs.List.{prefix_len}
use Rattle.std.proofs.Math.Seq.{drop-append_seam}
use Rattle.std.proofs.lemmas.Bool.{not-true}
use Rattle.std.proofs.lemmas.Bool.Decides.{nat_tests}
use Rattle.std.proofs.lemmas.List.{drop_more, nil_from_length}
use Rattle.std.proofs.lemmas.List.Sums.{prefix_len-le-length}
use Rattle.speedate_base.specs.Ascii.{colon, comma, full_stop, hyphen, plus_sign, capital_t}
use Rattle.speedate_base.specs.Ascii.{capital_z, small_t, small_z}
use Rattle.speedate_base.specs.Digits.{two_digits_at, two_digit_text, two_digit_value}
use Rattle.speedate_base.specs.Digits.{four_digit_value, is_decimal_mark}
use Rattle.speedate_base.specs.Numbers.{with_sign}
use Rattle.speedate_base.specs.Config.{refuses_digits}
use Rattle.speedate_base.specs.Requirement.{TextRow, ◌implies◌, AllHold}
use Rattle.speedate_base.specs.Requirement.{result_map}
use Rattle.speedate_base.specs.Requirement.{result_and_then}
use Rattle.speedate_civil.specs.Calendar.{Ymd, IsDate}
use Rattle.speedate_civil.specs.Time.{Clock, clock_front, has_second, minute_text}
use Rattle.speedate_civil.specs.Time.{end_fault, is_plus_or_minus, offset_digits, offset_front}
use Rattle.speedate_civil.specs.Time.{offset_ranges, signed_front, TimeOfDay, clock_with_offset}
use Rattle.speedate_civil.specs.Time.{time_front, time_answer, time_of_day, Time}
use Rattle.speedate_civil.specs.DateTime.{DateAndTime, date_time_answer, date_time_front}
use Rattle.speedate_civil.specs.DateTime.{separator_table, date_and_time, DateTime}
use Rattle.speedate_civil.specs.Date.{date_front, date_table, date_text}
use Rattle.speedate_civil.specs.Strict.{IsFullDate, IsDateTime, IsTwoDigits, IsSecfrac}
use Rattle.speedate_civil.specs.Strict.{IsPartialTime, IsNumoffset, IsTimeOffset, IsFullTime}
use Rattle.speedate_civil.specs.Strict.{offset_place, strict_date_time, strict_offset, strict_time}
use Rattle.speedate_civil.specs.Strict.{strict_date_time_answer, strict_time_answer}
use Rattle.speedate_base.proofs.DigitRunLemmas.{run_length-append}
use Rattle.speedate_base.proofs.NumberLemmas.{run-digits}
use Rattle.speedate_base.proofs.RequirementLemmas.{with_no_more-iff}
use Rattle.speedate_civil.proofs.ClockLemmas.{run_length-none, clock-secfrac, clock-whole}
use Rattle.speedate_civil.proofs.DateLemmas.{date_text-front}
use Rattle.speedate_civil.proofs.FrontLemmas.{ClockRead, bytes_from, clock-read, clock-size}
use Rattle.speedate_civil.proofs.FrontLemmas.{date_time_front-is, minute_size, time_front-is}
use Rattle.speedate_civil.proofs.OffsetLemmas.{offset-cases}
use Rattle.speedate_civil.proofs.ReadLemmas.{read-rows, read-then, read-value}
use Rattle.speedate_base.proofs.RefusalLemmas.{refusal-all, refusal-ok, refusal-value, seen-read}
use Rattle.speedate_base.specs.declared.refusal.Refused.{Refused}
use Rattle.speedate_base.specs.Refused.{placed, without_place}
use Rattle.speedate_base.proofs.RefusalLemmas.{refusal-whole}
use Rattle.speedate_civil.proofs.TimeLemmas.{front-printed}
use Rattle.speedate_base.proofs.RefusalLemmas.{seen_then}
use Rattle.speedate_base.specs.Refused.{alone_or, first_refused_or, from_byte}
use Rattle.speedate_base.specs.Requirement.{shifted}
use Rattle.speedate_civil.proofs.ReadLemmas.{read-part}

-- bytes of a text, from a place on, one by one
bytes-are : (count place : ℕ) (text : List ℕ) → place + count ≤ length text
    → take count (drop place text) ≡ bytes_from place count text
bytes-are zero place text within = refl
bytes-are (suc count) place text within =
    let others = bytes-are count (place + 1) text (omega arith) in
    search (rules, drop_more)

-- a text by its first bytes and the rest
split : (P : List ℕ → Type 0) (count : ℕ) (text : List ℕ) → count ≤ length text
    → P (bytes_from 0 count text ++ drop count text) → P text
split P count text within =
    let front_is = sym (bytes-are count 0 text (omega (arith, within))) in
    search (rules, take-append-drop)

-- they are the text of the number that they spell
spelled : (text : List ℕ) (place : ℕ) → two_digits_at text place ≡ true
    → two_digit_text (two_digit_value text place) ≡ bytes_from place 2 text
spelled text place digits = search rules

-- so they are two digits of the rules where the number is in its range
two-digits : (highest : ℕ) (text : List ℕ) (place : ℕ) → two_digits_at text place ≡ true
    → nat_le (two_digit_value text place) highest ≡ true
    → IsTwoDigits highest (bytes_from place 2 text)
two-digits highest text place digits small = search (rules, leb-true, spelled)

-- a fraction of all the digits that follow
secfrac-of : (behavior : Behavior) (digits : List ℕ)
    → nat_lt 0 (prefix_len is_ascii_digit digits) ≡ true
    → (refuses_digits behavior implies nat_le (prefix_len is_ascii_digit digits) 6) ≡ true
    → IsSecfrac behavior (full_stop ∷ take (prefix_len is_ascii_digit digits) digits)
secfrac-of behavior digits some few =
    grind (arith, ltb-true, length-take-le, prefix_len-le-length, run-digits)

-- a clock that was read is one of the rules if its second is there
clock-of : (behavior : Behavior) (a b c d e f g h : ℕ) (more fraction : List ℕ) (clock : Clock)
    → ClockRead behavior (a ∷ b ∷ c ∷ d ∷ e ∷ f ∷ g ∷ h ∷ more) clock → (f == colon) ≡ true
    → (fraction ≡ []) ⊎ IsSecfrac behavior fraction
    → IsPartialTime behavior (a ∷ b ∷ c ∷ d ∷ e ∷ f ∷ g ∷ h ∷ fraction)
clock-of behavior a b c d e f g h more fraction clock rows second part =
    let text : List ℕ = a ∷ b ∷ c ∷ d ∷ e ∷ f ∷ g ∷ h ∷ more in
    record {
      hour = a ∷ b ∷ [];
      minute = d ∷ e ∷ [];
      second = g ∷ h ∷ [];
      fraction = fraction;
      is_hour = two-digits 23 text 0 rows.hour.1.0 rows.range.0;
      is_minute = two-digits 59 text 3 rows.digits.0 rows.minute.0;
      is_second = two-digits 59 text 6 (search rules) (search rules);
      is_fraction = part;
      together = search rules;
    }

-- and its mark is no comma; the offset follows it
clock-parts : (behavior : Behavior) (a b c d e f g h : ℕ) (more : List ℕ) (clock : Clock)
    (point : Bool)
    → (slice_index more 0 == full_stop) ≡ point
    → clock_front behavior (a ∷ b ∷ c ∷ d ∷ e ∷ f ∷ g ∷ h ∷ more) ≡ Ok clock
    → (f == colon) ≡ true → (slice_index more 0 == comma) ≡ false
    → IsPartialTime behavior (take clock.size (a ∷ b ∷ c ∷ d ∷ e ∷ f ∷ g ∷ h ∷ more))
    × (clock.size ≡ offset_place (a ∷ b ∷ c ∷ d ∷ e ∷ f ∷ g ∷ h ∷ more))
clock-parts behavior a b c d e f g h more clock false none read second plain =
    let text : List ℕ = a ∷ b ∷ c ∷ d ∷ e ∷ f ∷ g ∷ h ∷ more in
    let rows = clock-read behavior text clock read in
    let size_of = ap (λ (found : Clock). found.size) rows.is in
    let size : 8 ≡ clock.size = rw (second, none, plain) at size_of in
    let time = clock-of behavior a b c d e f g h more [] clock rows second (inl refl) in
    (subst (λ (n : ℕ). IsPartialTime behavior (take n text)) size time, rw none (sym size))
clock-parts behavior a b c d e f g h [] clock true there read second plain = absurd (cc)
clock-parts behavior a b c d e f g h (mark ∷ digits) clock true there read second plain =
    let text : List ℕ = a ∷ b ∷ c ∷ d ∷ e ∷ f ∷ g ∷ h ∷ mark ∷ digits in
    let run = prefix_len is_ascii_digit digits in
    let rows = clock-read behavior text clock read in
    let size_of = ap (λ (found : Clock). found.size) rows.is in
    let size : 3 + (6 + run) ≡ clock.size = rw (second, there) at size_of in
    let nine_more = suc (suc (suc (suc (suc (suc (suc (suc (suc run)))))))) in
    let long : nine_more ≡ clock.size = omega (arith, size) in
    let more : List ℕ = mark ∷ digits in
    let fraction : List ℕ = mark ∷ take run digits in
    let point = sym (eqb-true mark full_stop there) in
    let pointed = secfrac-of behavior digits (search rules) (search rules) in
    let IsPart = λ (byte : ℕ). IsSecfrac behavior (byte ∷ take run digits) in
    let part = subst IsPart point pointed in
    let time = clock-of behavior a b c d e f g h more fraction clock rows second (inr part) in
    search rules

-- an offset with a sign is one of the rules if it has its `:` and takes all bytes
numoffset : (byte : ℕ) (numbers : List ℕ) → is_plus_or_minus byte ≡ true
    → (slice_index numbers 2 == colon) ≡ true
    → IfOk (signed_front (byte == hyphen) 1 numbers)
    (λ front. front.1 ≡ length (byte ∷ numbers) → IsTimeOffset (byte ∷ numbers))
numoffset byte numbers some there =
    read-rows _ (offset_digits numbers) _ (λ digits.
    read-rows _ (offset_ranges numbers) _ (λ ranges whole.
    let five : length numbers ≡ 5 = search rules in
    let front_is = sym (bytes-are 5 0 numbers (omega (arith, five))) in
    let bytes = front_is ∙ take_all 5 numbers (omega (arith, five)) in
    let numbered : IsNumoffset (byte ∷ bytes_from 0 5 numbers) = record {
      sign = byte;
      hour = bytes_from 0 2 numbers;
      minute = bytes_from 3 2 numbers;
      is_sign = search rules;
      is_hour = two-digits 23 numbers 0 digits.0 (search rules);
      is_minute = two-digits 59 numbers 3 (search rules) (search rules);
      together = search rules;
    } in
    inr (inr (subst (λ (text : List ℕ). IsNumoffset (byte ∷ text)) bytes numbered))))

-- an offset of the rules, by what it begins with
offset-all : (rest : List ℕ) → AllHold (strict_offset rest)
    → IfOk (offset_front rest) (λ front. front.1 ≡ length rest → IsTimeOffset rest)
offset-all [] rows = absurd (cc)
offset-all (byte ∷ numbers) rows =
    let text : List ℕ = byte ∷ numbers in
    let Whole = λ (front : Option ℤ × ℕ). front.1 ≡ length text → IsTimeOffset text in
    let IsOne = λ (left : List ℕ). IsTimeOffset (byte ∷ left) in
    offset-cases Whole text
    (λ some. numoffset byte numbers some (search rules))
    (λ none utc one.
    let ended : numbers ≡ [] = nil_from_length numbers (omega (arith, one)) in
    subst IsOne (sym ended) (search rules))
    (λ none other there. let not_there = not-true _ rows.1.0 in absurd (cc))
    (λ none other nothing one. absurd (omega (arith, one)))

-- a text whose clock is read with a second and no comma begins with a partial time
partial-time-of : (behavior : Behavior) (text : List ℕ) (clock : Clock)
    → clock_front behavior text ≡ Ok clock
    → clock.size ≤ length text → (slice_index text 5 == colon) ≡ true
    → (slice_index text 8 == comma) ≡ false
    → IsPartialTime behavior (take clock.size text) × (clock.size ≡ offset_place text)
partial-time-of behavior text clock read inside second plain =
    let rest = drop 3 text in
    let colon_is = ap (λ (byte : ℕ). byte == colon) (get_or-drop 3 text 2 0) in
    let there : has_second rest ≡ true = colon_is ∙ second in
    let size = rw there at (clock-size behavior text clock read) in
    search (rules, minute_size, split, clock-parts)

-- what the strict reader takes as a time is one by the rules
full-time-of : (behavior : Behavior) (text : List ℕ) → AllHold (strict_time text)
    → IfOk (time_front behavior text) (λ front. front.1 ≡ length text → IsFullTime behavior text)
full-time-of behavior text rows =
    let Meets = λ (place : ℕ). AllHold (strict_offset (drop place text)) in
    let plain = not-true (slice_index text 8 == comma) rows.1.0 in
    read-then _ _ (clock_front behavior text) (λ clock read.
    let rest : List ℕ = drop clock.size text in
    read-part _ _ _ (offset_front rest) (λ offset after whole.
    let inside : clock.size ≤ length text = omega (arith, whole) in
    let parts = partial-time-of behavior text clock read inside rows.0 plain in
    let meets = subst Meets (sym parts.1) rows.1.1 in
    let all : offset.1 ≡ length rest = omega (arith, whole, length-drop clock.size text) in
    record {
      time = take clock.size text;
      offset = rest;
      is_time = parts.0;
      is_offset = read-value _ _ offset after (offset-all rest meets) all;
      together = sym (take-append-drop clock.size text);
    }))

-- an offset of the rules is read whole, and begins with no digit and no mark
record OffsetRead (text : List ℕ) : Type 0 where
  front : Option ℤ × ℕ
  read : offset_front text ≡ Ok front
  whole : front.1 ≡ length text
  no_digit : is_ascii_digit (slice_index text 0) ≡ false
  no_mark : is_decimal_mark (slice_index text 0) ≡ false
  meets : AllHold (strict_offset text)

numoffset-read : (sign hour minute : ℕ) → (sign ≡ plus_sign) ⊎ (sign ≡ hyphen) → hour ≤ 23
    → minute ≤ 59
    → OffsetRead (sign ∷ two_digit_text hour ++ colon ∷ two_digit_text minute)
numoffset-read sign hour minute is small_hour small_minute = record {
  front = (Some (with_sign (sign == hyphen) (3600 * hour + 60 * minute)), 6);
  read = search rules;
  whole = refl;
  no_digit = search rules;
  no_mark = search rules;
  meets = search rules;
}

utc-read : (byte : ℕ) → (byte ≡ capital_z) ⊎ (byte ≡ small_z) → OffsetRead (byte ∷ [])
utc-read byte is = record {
  front = (Some (pos 0), 1);
  read = search rules;
  whole = refl;
  no_digit = search rules;
  no_mark = search rules;
  meets = search rules;
}

offset-read : (text : List ℕ) → IsTimeOffset text → OffsetRead text
offset-read text is = grind (arith, nat_tests, numoffset-read, utc-read)

-- a text that the strict reader takes
abbrev Taken : Behavior → List ℕ → Type 0
Taken behavior text =
    (time : TimeOfDay) × ((time_answer behavior text ≡ Ok time) × AllHold (strict_time text))

-- a clock and an offset after it, which are the whole text
taken-of : (behavior : Behavior) (text offset : List ℕ) (clock : Clock) → OffsetRead offset
    → clock_front behavior text ≡ Ok clock
    → drop clock.size text ≡ offset → length text ≡ clock.size + length offset
    → (slice_index text 5 == colon) ≡ true → (slice_index text 8 == comma) ≡ false
    → clock.size ≡ offset_place text → Taken behavior text
taken-of behavior text offset clock after read rest long second plain place =
    let time = clock_with_offset clock after.front.0 in
    let size = clock.size + after.front.1 in
    let fault = λ (value : TimeOfDay). end_fault value.offset in
    let offset_is = ap offset_front rest ∙ after.read in
    let front = time_front-is behavior text clock after.front read offset_is in
    let all : length text ≡ size = omega (arith, long, after.whole) in
    let whole = refusal-whole placed fault text time size all in
    let is = ap (result_and_then (alone_or fault text)) front ∙ whole in
    let rows : AllHold (strict_offset (drop (offset_place text) text)) = search rules in
    (time, (is, (second, (search rules, rows))))

-- the text of a time by its parts
abbrev parts_text : ℕ → ℕ → ℕ → List ℕ → List ℕ → List ℕ
parts_text hour minute second fraction offset =
    two_digit_text hour ++ colon ∷ minute_text minute second ++ fraction ++ offset

taken-parts : (behavior : Behavior) (hour minute second : ℕ) (fraction offset : List ℕ) → hour ≤ 23
    → minute ≤ 59 → second ≤ 59
    → (fraction ≡ []) ⊎ IsSecfrac behavior fraction → OffsetRead offset
    → Taken behavior (parts_text hour minute second fraction offset)
taken-parts behavior hour minute second fraction offset small_hour small_minute small_second
    (inl none) after =
    let text = two_digit_text hour ++ colon ∷ minute_text minute second ++ offset in
    let IsOne = λ (part : List ℕ). Taken behavior (parts_text hour minute second part offset) in
    let clock = clock-whole behavior minute second offset small_minute small_second after.no_mark in
    let front = front-printed behavior hour minute second offset _ small_hour small_minute clock in
    let taken = taken-of behavior text offset _ after front refl in
    subst IsOne (sym none) (taken (omega arith) refl (search rules) (search rules))
taken-parts behavior hour minute second fraction offset small_hour small_minute small_second
    (inr part) after =
    let digits = part.digits in
    let more = full_stop ∷ digits ++ offset in
    let text = parts_text hour minute second (full_stop ∷ digits) offset in
    let IsOne = λ (cut : List ℕ). Taken behavior (parts_text hour minute second cut offset) in
    let nine_more = suc (suc (suc (suc (suc (suc (suc (suc (suc (length digits))))))))) in
    let size : 3 + (6 + length digits) ≡ nine_more = omega arith in
    let rest = ap (λ (n : ℕ). drop n text) size ∙ drop-append_seam digits offset in
    let run = run_length-append digits offset part.are_digits in
    let none = run_length-none offset after.no_digit in
    let pointed = clock-secfrac behavior minute second digits offset small_minute small_second in
    let clock = pointed part.are_digits part.some part.few after.no_digit in
    let front = front-printed behavior hour minute second more _ small_hour small_minute clock in
    let taken = taken-of behavior text offset _ after front rest in
    let long = length-append digits offset in
    search rules

-- the text of a clock by its parts, which are the texts of numbers
abbrev clock_text : List ℕ → List ℕ → List ℕ → List ℕ → List ℕ
clock_text hour minute second fraction = hour ++ colon ∷ minute ++ colon ∷ second ++ fraction

parts-spelled : (behavior : Behavior) (text : List ℕ) (time : IsPartialTime behavior text)
    → clock_text time.hour time.minute time.second time.fraction
    ≡ clock_text (two_digit_text time.is_hour.number) (two_digit_text time.is_minute.number)
    (two_digit_text time.is_second.number) time.fraction
parts-spelled behavior text time = search rules

-- and a time of the rules is taken
full-time-taken : (behavior : Behavior) (text : List ℕ) → IsFullTime behavior text
    → Taken behavior text
full-time-taken behavior text is =
    let time = is.is_time in
    let hour = time.is_hour in
    let minute = time.is_minute in
    let second = time.is_second in
    let clock = time.together ∙ parts-spelled behavior _ time in
    let together = is.together ∙ ap (λ (front : List ℕ). front ++ is.offset) clock in
    let offset = offset-read is.offset is.is_offset in
    let parts = taken-parts behavior hour.number minute.number second.number time.fraction _ in
    let taken = parts hour.within minute.within second.within time.is_fraction offset in
    subst (Taken behavior) (sym together) taken

full-date-of : (text : List ℕ) → IfOk (date_front text) (λ front. IsFullDate (take 10 text))
full-date-of text =
    let Full = λ (front : Ymd × ℕ). IsFullDate (take 10 text) in
    read-rows Full (date_table text) _ (λ met.
    let bytes = bytes-are 10 0 text (leb-true 10 (length text) met.0) in
    subst IsFullDate (sym bytes) (record {
      year = four_digit_value text 0;
      month = two_digit_value text 5;
      day = two_digit_value text 8;
      is_year = search rules;
      is_month = search rules;
      is_day = search rules;
      together = search rules;
    }))

-- what the strict reader takes as a date-time is one by the rules
date-time-of : (behavior : Behavior) (text : List ℕ) → AllHold (strict_date_time text)
    → IfOk (date_time_front behavior text)
    (λ front. front.1 ≡ length text → IsDateTime behavior text)
date-time-of behavior text rows =
    let rest : List ℕ = drop 11 text in
    let table = separator_table text in
    let answer = time_front behavior rest in
    read-then _ _ (date_front text) (λ date dated.
    read-then _ _ (first_refused_or table (from_byte 11 answer)) (λ time timed whole.
    let after = (refusal-ok placed table (from_byte 11 answer) time timed).1 in
    let read = seen-read (shifted 11 placed) answer time after in
    let all : time.1 ≡ length rest = omega (arith, whole, length-drop 11 text) in
    let separated = drop_more text 10 0 (omega (arith, whole)) in
    record {
      date = take 10 text;
      separator = slice_index text 10;
      time = rest;
      is_date = read-value _ (date_front text) date dated (full-date-of text);
      is_separator = search rules;
      is_time = read-value _ _ time read (full-time-of behavior rest rows.1) all;
      together = sym (take-append-drop 10 text)
          ∙ ap (λ (left : List ℕ). take 10 text ++ left) separated;
    }))

date-time-parts : (behavior : Behavior) (date : Ymd) (separator : ℕ) (time : List ℕ) → IsDate date
    → (separator ≡ capital_t) ⊎ (separator ≡ small_t) → (value : TimeOfDay)
    → time_answer behavior time ≡ Ok value
    → date_time_answer behavior (date_text date ++ separator ∷ time)
    ≡ Ok (record { date = date; time = value })
date-time-parts behavior date separator time valid parted value read =
    let text = date_text date ++ separator ∷ time in
    let fault = λ (found : DateAndTime). end_fault found.time.offset in
    let time_fault = λ (found : TimeOfDay). end_fault found.offset in
    let timed = (with_no_more-iff placed time_fault time (time_front behavior time) value).0 read in
    let dated = date_text-front date (separator ∷ time) valid in
    let rows : AllHold (separator_table text) = (search rules, tt) in
    let is = date_time_front-is behavior text (date, 10) (value, length time) dated rows timed in
    grind (arith, nat_tests, refusal-whole)

-- a text that the strict reader takes as a date-time
abbrev DateTimeTaken : Behavior → List ℕ → Type 0
DateTimeTaken behavior text =
    (value : DateAndTime) × ((date_time_answer behavior text ≡ Ok value)
    × AllHold (strict_date_time text))

-- and a date-time of the rules is taken
date-time-taken : (behavior : Behavior) (text : List ℕ) → IsDateTime behavior text
    → DateTimeTaken behavior text
date-time-taken behavior text is =
    let taken = full-time-taken behavior is.time is.is_time in
    let parts = is.is_date in
    let date : Ymd = record { year = parts.year; month = parts.month; day = parts.day } in
    let value : DateAndTime = record { date = date; time = taken.0 } in
    let valid : IsDate date = record {
      year = parts.is_year;
      day = record { month = parts.is_month; day = parts.is_day };
    } in
    let front = ap (λ (bytes : List ℕ). bytes ++ is.separator ∷ is.time) parts.together in
    let together : text ≡ date_text date ++ is.separator ∷ is.time = is.together ∙ front in
    let answer = date-time-parts behavior date is.separator is.time valid is.is_separator in
    subst (DateTimeTaken behavior) (sym together)
    (value, (answer taken.0 taken.1.0, (search rules, taken.1.1)))

-- a result whose value meets further rows is a value if and only if a text is one of the rules
strict : {A B : Type 0} (view : A → B) (result : Result A ParseError) (rows : List TextRow)
    (answer : Result B Refused) (IsOne : Type 0)
    → result_map view result
    ≡ without_place (result_and_then (λ (read : B). first_refused_or rows (Ok read)) answer)
    → ((value : B) → answer ≡ Ok value → AllHold rows → IsOne)
    → (IsOne → (value : B) × ((answer ≡ Ok value) × AllHold rows)) → IsOk result ↔ IsOne
strict view result rows answer IsOne is to from =
    grind (arith, refusal-all, refusal-value, seen_then, seen-read)

-- what is read and meets the rows of the rules is one of them
is-full-time : (behavior : Behavior) (text : List ℕ) (time : TimeOfDay)
    → time_answer behavior text ≡ Ok time → AllHold (strict_time text)
    → IsFullTime behavior text
is-full-time behavior text time read rows =
    let fault = λ (value : TimeOfDay). end_fault value.offset in
    let whole = (with_no_more-iff placed fault text (time_front behavior text) time).0 read in
    read-value _ _ (time, length text) whole (full-time-of behavior text rows) refl

is-date-time : (behavior : Behavior) (text : List ℕ) (value : DateAndTime)
    → date_time_answer behavior text ≡ Ok value → AllHold (strict_date_time text)
    → IsDateTime behavior text
is-date-time behavior text value read rows =
    let fault = λ (found : DateAndTime). end_fault found.time.offset in
    let whole = (with_no_more-iff placed fault text (date_time_front behavior text) value).0 read in
    read-value _ _ (value, length text) whole (date-time-of behavior text rows) refl

-- so a text is taken if and only if it is one of the rules
pub time-strict : (behavior : Behavior) (text : List ℕ) (result : Result Time ParseError)
    → result_map time_of_day result ≡ without_place (strict_time_answer behavior text)
    → IsOk result ↔ IsFullTime behavior text
time-strict behavior text result is =
    let answer = time_answer behavior text in
    strict time_of_day result (strict_time text) answer (IsFullTime behavior text) is
    (is-full-time behavior text) (full-time-taken behavior text)

pub date-time-strict : (behavior : Behavior) (text : List ℕ) (result : Result DateTime ParseError)
    → result_map date_and_time result ≡ without_place (strict_date_time_answer behavior text)
    → IsOk result ↔ IsDateTime behavior text
date-time-strict behavior text result is =
    let answer = date_time_answer behavior text in
    strict date_and_time result (strict_date_time text) answer (IsDateTime behavior text) is
    (is-date-time behavior text) (date-time-taken behavior text)
