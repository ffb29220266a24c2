-- What is read at the front of a text is the same without the bytes after it.
use Rattle.std.proofs.Common.{◌≡◌, ℕ, zero, suc, ◌+◌, ◌-◌, ◌≤◌, Bool, true, false, ◌&&◌, ◌==◌, List, [], ◌∷◌, length, take, drop, slice_index, if◌then◌else◌, Option, None, ℤ, IfOk, Result, Ok, Err, refl, rules, arith, ap, ap₂, sym, ◌∙◌, le-leb, length-drop, length-take-le, get_or-take, take-take}
use Rattle.speedate_civil.specs.Base.{Behavior, ParseError}
use Rattle.std.proofs.lemmas.Bool.{leb-true}
use Rattle.std.proofs.lemmas.Bool.Decides.{nat_tests}
use Rattle.std.proofs.lemmas.Grind.{common_steps}
use Rattle.std.specs.Char.{is_ascii_digit}
use Rattle.std.specs.List.{prefix_len}
use Rattle.std.proofs.lemmas.List.{drop-take}
use Rattle.speedate_base.specs.Ascii.{colon, hyphen}
use Rattle.speedate_base.specs.Digits.{run_length, run_digits, two_digit_value, is_decimal_mark}
use Rattle.speedate_base.specs.Requirement.{fault_alone, AllHold}
use Rattle.speedate_base.specs.Requirement.{result_and_then, result_map, with_size}
use Rattle.speedate_civil.specs.Calendar.{Ymd}
use Rattle.speedate_civil.specs.Time.{Clock, at_hour, clock_answer, clock_front, hour_table}
use Rattle.speedate_civil.specs.Time.{hour_range, minute_clock, minute_digits, minute_table}
use Rattle.speedate_civil.specs.Time.{has_second, has_decimal_mark, end_fault, offset_digits_size}
use Rattle.speedate_civil.specs.Time.{offset_front, has_minus_sign}
use Rattle.speedate_civil.specs.Time.{is_plus_or_minus, is_utc, signed_front, TimeOfDay, time_front}
use Rattle.speedate_civil.specs.Time.{time_answer, clock_with_offset}
use Rattle.speedate_civil.specs.DateTime.{DateAndTime, DateTime, date_and_time, date_time_answer}
use Rattle.speedate_civil.specs.DateTime.{date_time_front, separator_table}
use Rattle.speedate_civil.specs.Date.{date_front, date_answer, date_numbers, date_table}
use Rattle.speedate_civil.proofs.OffsetLemmas.{offset-cases}
use Rattle.speedate_base.specs.declared.refusal.Refused.{Refused}
use Rattle.speedate_base.specs.Refused.{placed, without_place}
use Rattle.speedate_base.proofs.RefusalLemmas.{refusal-all, refusal-ok, seen-read}
use Rattle.speedate_civil.proofs.ReadLemmas.{read-map, read-rows, read-then, read-value}
use Rattle.speedate_base.specs.Refused.{alone_or, first_refused_or, from_byte}
use Rattle.speedate_base.specs.Requirement.{moved, shifted}
use Rattle.speedate_civil.proofs.ReadLemmas.{read-from, read-part}

-- bytes of a text, from a place on, and 0 for those after its end
abbrev pub bytes_from : ℕ → ℕ → List ℕ → List ℕ
bytes_from place zero text = []
bytes_from place (suc count) text = slice_index text place ∷ bytes_from (place + 1) count text

-- those of a front are those of the text
pub bytes-taken : (count place number : ℕ) (text : List ℕ) → place + number ≤ count
    → bytes_from place number (take count text) ≡ bytes_from place number text
bytes-taken count place zero text within = refl
bytes-taken count place (suc number) text within =
    let first = get_or-take count text place 0 (omega arith) in
    let others = bytes-taken count (place + 1) number text (omega arith) in
    ap₂ (λ (byte : ℕ) (rest : List ℕ). byte ∷ rest) first others

-- a byte of the front of a text is that of the text, or 0 after its end
cut : (text : List ℕ) (count place : ℕ) (test : ℕ → Bool) → test 0 ≡ false
    → test (slice_index text place) ≡ false → test (slice_index (take count text) place) ≡ false
cut text count place test none other = grind (arith, common_steps)

-- a run of digits that ends within a front is that of the text
run-taken : (count : ℕ) (text : List ℕ) → prefix_len is_ascii_digit text ≤ count
    → prefix_len is_ascii_digit (take count text) ≡ prefix_len is_ascii_digit text
run-taken zero text within = omega (arith, within)
run-taken (suc count) [] within = refl
run-taken (suc count) (byte ∷ text) within = grind (arith, run-taken count text)

-- a front, from a place within it on
pub dropped-front : (place count : ℕ) (text : List ℕ) → place ≤ count
    → drop place (take count text) ≡ take (count - place) (drop place text)
dropped-front place count text within =
    let left : place + (count - place) ≡ count = omega (arith, within) in
    ap (λ (n : ℕ). drop place (take n text)) (sym left) ∙ drop-take place (count - place) text

-- how many bytes a clock takes from its minute on
abbrev pub minute_size : Bool → Bool → ℕ → ℕ
minute_size second point run = if second && point then 6 + run else (if second then 5 else 2)

-- the clock from its minute on
minute-taken : (behavior : Behavior) (rest : List ℕ) (count : ℕ) (second point : Bool)
    → has_second rest ≡ second → has_decimal_mark rest ≡ point
    → minute_size second point (run_length rest 6) ≤ count
    → clock_answer behavior (take count rest) ≡ clock_answer behavior rest
minute-taken behavior rest count false point none is two =
    let bytes = bytes-taken count 0 2 rest two in
    rw (none, cut rest count 2 (λ byte. byte == colon) refl none) cc
minute-taken behavior rest count true false there none five =
    let bytes = bytes-taken count 0 5 rest five in
    let byte = get_or-take count rest 2 0 (omega (arith, five)) in
    let too = ap (λ (byte : ℕ). byte == colon) byte ∙ there in
    rw (there, too, none, cut rest count 5 is_decimal_mark refl none) cc
minute-taken behavior rest count true true there point long =
    let line = take count rest in
    let size = run_length rest 6 in
    let few : size ≤ count - 6 = omega (arith, long) in
    let dropped = dropped-front 6 count rest (omega (arith, long)) in
    let same = run-taken (count - 6) (drop 6 rest) few in
    let run : run_length line 6 ≡ size = ap (prefix_len is_ascii_digit) dropped ∙ same in
    let counted = ap (λ (n : ℕ). take n (drop 6 line)) run in
    let taken = ap (take size) dropped ∙ take-take size (count - 6) (drop 6 rest) few in
    let digits : run_digits line 6 ≡ run_digits rest 6 = counted ∙ taken in
    let bytes = bytes-taken count 0 6 rest (omega (arith, long)) in
    cc

minute_size-two : (second point : Bool) (run : ℕ) → 2 ≤ minute_size second point run
minute_size-two second point run = search rules

-- the clock from its hour on
clock-taken : (behavior : Behavior) (text : List ℕ) (count : ℕ)
    → 3 + (minute_clock (drop 3 text)).size ≤ count → count ≤ length text
    → clock_front behavior (take count text) ≡ clock_front behavior text
clock-taken behavior text count within inside =
    grind (arith, le-leb, drop-take, length-take-le, minute-taken, minute_size-two)

-- the digits of an offset
digits-taken : (west : Bool) (sign count : ℕ) (numbers : List ℕ) (there : Bool)
    → (slice_index numbers 2 == colon) ≡ there → offset_digits_size numbers ≤ count
    → signed_front west sign (take count numbers) ≡ signed_front west sign numbers
digits-taken west sign count numbers there is within =
    grind (arith, nat_tests, bytes-taken, get_or-take)

-- what is read of an offset is read of each front that has its bytes
abbrev IsTaken : List ℕ → Option ℤ × ℕ → Type 0
IsTaken rest front = (count : ℕ) → front.1 ≤ count → offset_front (take count rest) ≡ Ok front

signed-taken : (west : Bool) (sign : ℕ) (rest : List ℕ)
    → ((count : ℕ) → sign + offset_digits_size (drop sign rest) ≤ count
    → offset_front (take count rest)
    ≡ from_byte sign (signed_front west sign (drop sign (take count rest))))
    → IfOk (signed_front west sign (drop sign rest)) (IsTaken rest)
signed-taken west sign rest is =
    grind (arith, nat_tests, read-rows, dropped-front, digits-taken, refusal-all)

-- what begins no offset begins none in a front of it
no_minus-taken : (rest : List ℕ) (count : ℕ) → has_minus_sign rest ≡ false
    → has_minus_sign (take count rest) ≡ false
no_minus-taken rest count none = grind (arith, common_steps)

none-taken : (rest : List ℕ) (count : ℕ) → is_plus_or_minus (slice_index rest 0) ≡ false
    → is_utc (slice_index rest 0) ≡ false → has_minus_sign rest ≡ false
    → offset_front (take count rest) ≡ Ok (None, 0)
none-taken rest count plus utc minus =
    rw (
      cut rest count 0 is_plus_or_minus refl plus,
      cut rest count 0 is_utc refl utc,
      no_minus-taken rest count minus,
    ) refl

offset-taken : (rest : List ℕ) → IfOk (offset_front rest) (IsTaken rest)
offset-taken rest =
    offset-cases (IsTaken rest) rest
    (λ some. signed-taken (slice_index rest 0 == hyphen) 1 rest (λ count within.
    rw (get_or-take count rest 0 0 (omega (arith, within)), some) refl))
    (λ none utc count within.
    rw (get_or-take count rest 0 0 (omega (arith, within)), none, utc) refl)
    (λ none other there. signed-taken true 3 rest (λ count within.
    rw (
      get_or-take count rest 0 0 (omega (arith, within)),
      get_or-take count rest 1 0 (omega (arith, within)),
      get_or-take count rest 2 0 (omega (arith, within)),
      none,
      other,
      there,
    ) refl))
    (λ none other nothing count within. none-taken rest count none other nothing)

-- a clock that was read: the rows of its tables hold, and it is the one of the text
pub record ClockRead (behavior : Behavior) (text : List ℕ) (clock : Clock) : Type 0 where
  pub hour : AllHold (hour_table text)
  pub digits : AllHold (minute_digits (drop 3 text))
  pub range : AllHold (hour_range text)
  pub minute : AllHold (minute_table behavior (drop 3 text))
  pub is : at_hour (two_digit_value text 0) (minute_clock (drop 3 text)) ≡ clock

pub clock-read : (behavior : Behavior) (text : List ℕ) (clock : Clock)
    → clock_front behavior text ≡ Ok clock
    → ClockRead behavior text clock
clock-read behavior text clock read =
    let rest : List ℕ = drop 3 text in
    let with_hour = at_hour (two_digit_value text 0) in
    let Is = ClockRead behavior text in
    let IsMinute = λ (minute : Clock). Is (with_hour minute) in
    read-value Is (clock_front behavior text) clock read
    (read-rows Is (hour_table text) _ (λ hour.
    read-rows Is (moved 3 (minute_digits rest)) _ (λ digits.
    read-rows Is (hour_range text) _ (λ range.
    read-map Is with_hour (from_byte 3 (clock_answer behavior rest))
    (read-from IsMinute 3 (clock_answer behavior rest)
    (read-rows IsMinute (minute_table behavior rest) _ (λ minute. record {
      hour = hour;
      digits = digits;
      range = range;
      minute = minute;
      is = refl;
    })))))))

-- how many bytes it takes
pub clock-size : (behavior : Behavior) (text : List ℕ) (clock : Clock)
    → clock_front behavior text ≡ Ok clock
    → 3 + (minute_clock (drop 3 text)).size ≡ clock.size
clock-size behavior text clock read =
    ap (λ (found : Clock). found.size) (clock-read behavior text clock read).is

-- a clock and the offset after it are a time
pub time_front-is : (behavior : Behavior) (text : List ℕ) (clock : Clock) (offset : Option ℤ × ℕ)
    → clock_front behavior text ≡ Ok clock → offset_front (drop clock.size text) ≡ Ok offset
    → time_front behavior text ≡ Ok (clock_with_offset clock offset.0, clock.size + offset.1)
time_front-is behavior text clock offset read after = rw (read, after) refl

-- a time at the front of a text is that of its bytes alone, and of any more
time_front-taken : (behavior : Behavior) (text : List ℕ)
    → IfOk (time_front behavior text) (λ front. (count : ℕ) → front.1 ≤ count → count ≤ length text
    → time_front behavior (take count text) ≡ Ok front)
time_front-taken behavior text =
    read-then _ _ (clock_front behavior text) (λ clock read.
    read-part _ _ _ (offset_front (drop clock.size text)) (λ offset after count within inside.
    let less = count - clock.size in
    let rest : List ℕ = drop clock.size text in
    let same = clock-size behavior text clock read in
    let minute : 3 + (minute_clock (drop 3 text)).size ≤ count = omega (arith, within, same) in
    let clock_is = clock-taken behavior text count minute inside ∙ read in
    let cut_rest = dropped-front clock.size count text (omega (arith, within)) in
    let offset_is = read-value (IsTaken rest) _ offset after (offset-taken rest) in
    time_front-is behavior (take count text) clock offset clock_is
    (ap offset_front cut_rest ∙ offset_is less (omega (arith, within)))))

-- what is read of the bytes that it takes takes them all
taken-alone : {A : Type 0} (fault : A → ParseError) (text : List ℕ)
    (answer : Result (A × ℕ) Refused) (front : A × ℕ)
    → front.1 ≤ length text → answer ≡ Ok front
    → result_and_then (alone_or fault (take front.1 text)) answer ≡ Ok front.0
taken-alone fault text answer front inside read = search rules

pub time_front-alone : (behavior : Behavior) (text : List ℕ) (front : TimeOfDay × ℕ)
    → time_front behavior text ≡ Ok front → front.1 ≤ length text
    → time_answer behavior (take front.1 text) ≡ Ok front.0
time_front-alone behavior text front read inside =
    let fault = λ (time : TimeOfDay). end_fault time.offset in
    let answer = time_front behavior (take front.1 text) in
    let taken = read-value _ _ front read (time_front-taken behavior text) in
    taken-alone fault text answer front inside (taken front.1 (omega arith) inside)

-- a date at the front of a text is that of its bytes alone, and of any more
pub date-taken : (text : List ℕ) (count : ℕ) → 10 ≤ count → count ≤ length text
    → date_front (take count text) ≡ date_front text
date-taken text count ten inside = grind (arith, common_steps)

-- so a date that was read ends within its text, and is that of its bytes alone
pub date_front-within : (text : List ℕ) → IfOk (date_front text) (λ front. front.1 ≤ length text)
date_front-within text = search (rules, read-rows, leb-true)

pub date_front-alone : (text : List ℕ)
    → IfOk (date_front text) (λ front. date_answer (take front.1 text) ≡ Ok front.0)
date_front-alone text =
    let front : Ymd × ℕ = (date_numbers text, 10) in
    let answer = date_front (take 10 text) in
    let fault = λ (date : Ymd). ParseError.ExtraCharacters in
    let Alone = λ (read : Ymd × ℕ). date_answer (take read.1 text) ≡ Ok read.0 in
    read-rows Alone (date_table text) (Ok front) (λ rows.
    let inside : 10 ≤ length text = leb-true 10 (length text) rows.0 in
    let met = refusal-all placed (date_table text) (Ok front) rows in
    taken-alone fault text answer front inside (date-taken text 10 (omega arith) inside ∙ met))

-- a date, a separator and a time are a date-time
pub date_time_front-is : (behavior : Behavior) (text : List ℕ) (date : Ymd × ℕ)
    (time : TimeOfDay × ℕ)
    → date_front text ≡ Ok date → AllHold (separator_table text)
    → time_front behavior (drop 11 text) ≡ Ok time
    → date_time_front behavior text ≡ Ok (record { date = date.0; time = time.0 }, 11 + time.1)
date_time_front-is behavior text date time dated parted timed = rw (dated, parted.0, timed) refl

-- so is a date-time
pub date_time_front-taken : (behavior : Behavior) (text : List ℕ)
    → IfOk (date_time_front behavior text)
    (λ front. (count : ℕ) → front.1 ≤ count → count ≤ length text
    → date_time_front behavior (take count text) ≡ Ok front)
date_time_front-taken behavior text =
    let rest : List ℕ = drop 11 text in
    let table = separator_table text in
    let answer = time_front behavior rest in
    read-then _ _ (date_front text) (λ date dated.
    read-then _ _ (first_refused_or table (from_byte 11 answer)) (λ time read count within inside.
    let after = refusal-ok placed table (from_byte 11 answer) time read in
    let was = seen-read (shifted 11 placed) answer time after.1 in
    let less = count - 11 in
    let date_is = date-taken text count (omega (arith, within)) inside ∙ dated in
    let byte = get_or-take count text 10 0 (omega (arith, within)) in
    let cut_rest = dropped-front 11 count text (omega (arith, within)) in
    let taken = read-value _ answer time was (time_front-taken behavior rest) in
    let few : less ≤ length rest = omega (arith, inside, length-drop 11 text) in
    let time_is = taken less (omega (arith, within)) few in
    let timed = ap (time_front behavior) cut_rest ∙ time_is in
    date_time_front-is behavior (take count text) date time date_is (rw byte after.0) timed))

pub date_time_front-alone : (behavior : Behavior) (text : List ℕ) (front : DateAndTime × ℕ)
    → date_time_front behavior text ≡ Ok front → front.1 ≤ length text
    → date_time_answer behavior (take front.1 text) ≡ Ok front.0
date_time_front-alone behavior text front read inside =
    let fault = λ (value : DateAndTime). end_fault value.time.offset in
    let answer = date_time_front behavior (take front.1 text) in
    let taken = read-value _ _ front read (date_time_front-taken behavior text) in
    taken-alone fault text answer front inside (taken front.1 (omega arith) inside)

-- so it is of what a call returns
pub date_time_read-alone : (behavior : Behavior) (text : List ℕ)
    (result : Result (DateTime × ℕ) ParseError)
    → result_map (with_size date_and_time) result ≡ without_place (date_time_front behavior text)
    → IfOk result (λ front. front.1 ≤ length text)
    → IfOk result
    (λ front. date_time_answer behavior (take front.1 text) ≡ Ok (date_and_time front.0))
date_time_read-alone behavior text (Ok front) is within =
    date_time_front-alone behavior text (date_and_time front.0, front.1)
    (seen-read fault_alone (date_time_front behavior text) _ (sym is)) within
date_time_read-alone behavior text (Err fault) is within = tt
