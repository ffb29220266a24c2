-- A text whose bytes lie between those of two texts begins with a date, and a clock with a second.
use Rattle.std.proofs.Common.{◌≡◌, ◌∙◌, ap, sym, refl, ℕ, zero, suc, ◌+◌, ◌-◌, ◌*◌, ◌<◌, ◌≤◌, ◌==◌, Bool, true, ◌&&◌, nat_le, List, [], ◌∷◌, length, get_or, take, drop, codes, slice_index, arith, lit<, lit≤, get_or-drop, get_or-take, length-drop, length-take-le, leb-true}
use Rattle.std.proofs.Common.{ℤ, pos, ◌+ℤ◌, ◌-ℤ◌, ◌*ℤ◌, Some, None, Ok, if◌then◌else◌, rules}
use Rattle.std.proofs.lemmas.Bool.{and_parts}
use Rattle.std.proofs.lemmas.Bool.Decides.{nat_tests}
use Rattle.std.specs.Char.{is_ascii_digit}
use Rattle.speedate_base.specs.Digits.{are_at_most, eight_at, fit_length, two_digits_at}
use Rattle.speedate_base.specs.Digits.{two_digit_value}
use Rattle.speedate_base.proofs.PatternLemmas.{by_eight}
use Rattle.speedate_base.specs.Ascii.{HasNoControl, colon, hyphen}
use Rattle.speedate_civil.specs.Base.{Behavior}
use Rattle.speedate_civil.specs.Calendar.{Ymd}
use Rattle.speedate_civil.specs.DateTime.{DateAndTime, IsUtcFront, date_time_front, local_second}
use Rattle.speedate_civil.specs.DateTime.{utc_microsecond}
use Rattle.speedate_civil.specs.ParserParts.{HasFullClock, IsFullFront, hour_and_minute_form}
use Rattle.speedate_civil.specs.Time.{Clock, clock_with_offset}
use Rattle.speedate_civil.proofs.FrontLemmas.{date_time_front-alone, date_time_front-is}
use Rattle.speedate_civil.proofs.FrontLemmas.{time_front-is}
use Rattle.speedate_civil.proofs.NoControlLemmas.{date_time_front-no_control}
use Rattle.speedate_civil.proofs.ReadLemmas.{read-value}

at_most-at : (bytes mosts : List ℕ) (k : ℕ) → are_at_most bytes mosts ≡ true → k < length bytes
    → k < length mosts → get_or bytes k 0 ≤ get_or mosts k 0
at_most-at [] mosts k all one two = absurd (omega (arith, one))
at_most-at (byte ∷ bytes) [] k all one two = absurd (omega (arith, two))
at_most-at (byte ∷ bytes) (most ∷ mosts) zero all one two =
    leb-true byte most (and_parts (nat_le byte most) (are_at_most bytes mosts) all).0
at_most-at (byte ∷ bytes) (most ∷ mosts) (suc k) all one two =
    at_most-at bytes mosts k (and_parts (nat_le byte most) (are_at_most bytes mosts) all).1
    (omega (arith, one)) (omega (arith, two))

-- sixteen bytes of a text lie between those of two others
abbrev pub AreBetween : List ℕ → List ℕ → List ℕ → Type 0
AreBetween lowest bytes highest = (are_at_most lowest bytes && are_at_most bytes highest) ≡ true

-- so one of them does
byte-between : (lowest highest text : List ℕ) (place k : ℕ) → length lowest ≡ 16
    → length highest ≡ 16 → place + 16 ≤ length text → k < 16
    → AreBetween lowest (take 16 (drop place text)) highest
    → (get_or lowest k 0 ≤ slice_index text (place + k))
    × (slice_index text (place + k) ≤ get_or highest k 0)
byte-between lowest highest text place k one two long small all =
    let front : List ℕ = take 16 (drop place text) in
    let count : length front ≡ 16 =
    length-take-le 16 (drop place text) (omega (arith, long, length-drop place text)) in
    let same : get_or front k 0 ≡ slice_index text (place + k) =
    get_or-take 16 (drop place text) k 0 small ∙ get_or-drop place text k 0 in
    search (rules, at_most-at, and_parts)

abbrev lowest_date : List ℕ
lowest_date = codes "0000-00-00 00:00"

abbrev highest_date : List ℕ
highest_date = codes "9999-19-39t29:59"

abbrev lowest_clock : List ℕ
lowest_clock = codes "0-00-00 00:00:00"

abbrev highest_clock : List ℕ
highest_clock = codes "9-19-39t29:59:59"

date-byte : (text : List ℕ) (k : ℕ) → 19 ≤ length text → k < 16
    → AreBetween lowest_date (take 16 text) highest_date
    → (get_or lowest_date k 0 ≤ slice_index text (0 + k))
    × (slice_index text (0 + k) ≤ get_or highest_date k 0)
date-byte text k long small all =
    byte-between lowest_date highest_date text 0 k refl refl (omega (arith, long)) small all

clock-byte : (text : List ℕ) (k : ℕ) → 19 ≤ length text → k < 8
    → AreBetween lowest_clock (take 16 (drop 3 text)) highest_clock
    → (get_or lowest_clock (8 + k) 0 ≤ slice_index (drop 11 text) k)
    × (slice_index (drop 11 text) k ≤ get_or highest_clock (8 + k) 0)
clock-byte text k long small all =
    let place : 3 + (8 + k) ≡ 11 + k = omega arith in
    let same : slice_index text (3 + (8 + k)) ≡ slice_index (drop 11 text) k =
    ap (slice_index text) place ∙ sym (get_or-drop 11 text k 0) in
    rw same at
    (byte-between lowest_clock highest_clock text 3 (8 + k) refl refl (omega (arith, long))
    (omega (arith, small)) all)

is_digit : (most byte : ℕ) → most ≤ 57 → (48 ≤ byte) × (byte ≤ most) → is_ascii_digit byte ≡ true
is_digit most byte small lies = grind (arith, nat_tests)

-- two bytes at 5 or less and at 9 are a number below 60
below-60 : (tens ones : ℕ) → (48 ≤ tens) × (tens ≤ 53) → (48 ≤ ones) × (ones ≤ 57)
    → 10 * (tens - 48) + (ones - 48) ≤ 59
below-60 tens ones first second = omega (arith, first, second)

is_mark : (mark byte : ℕ) → (mark ≤ byte) × (byte ≤ mark) → (byte == mark) ≡ true
is_mark mark byte lies = grind (arith, nat_tests)

looks-date : (text : List ℕ) → 19 ≤ length text
    → AreBetween lowest_date (take 16 text) highest_date
    → fit_length (codes "0000-00-") (eight_at text 0) ≡ 8
looks-date text long all =
    rw (
      is_digit _ _ (lit≤ tt) (date-byte text 0 long (lit< tt) all),
      is_digit _ _ (lit≤ tt) (date-byte text 1 long (lit< tt) all),
      is_digit _ _ (lit≤ tt) (date-byte text 2 long (lit< tt) all),
      is_digit _ _ (lit≤ tt) (date-byte text 3 long (lit< tt) all),
      is_mark hyphen _ (date-byte text 4 long (lit< tt) all),
      is_digit _ _ (lit≤ tt) (date-byte text 5 long (lit< tt) all),
      is_digit _ _ (lit≤ tt) (date-byte text 6 long (lit< tt) all),
      is_mark hyphen _ (date-byte text 7 long (lit< tt) all),
    ) refl

looks-clock : (text : List ℕ) → 19 ≤ length text
    → AreBetween lowest_clock (take 16 (drop 3 text)) highest_clock
    → fit_length (codes "00:00:00") (eight_at (drop 11 text) 0) ≡ 8
looks-clock text long all =
    rw (
      is_digit _ _ (lit≤ tt) (clock-byte text 0 long (lit< tt) all),
      is_digit _ _ (lit≤ tt) (clock-byte text 1 long (lit< tt) all),
      is_mark colon _ (clock-byte text 2 long (lit< tt) all),
      is_digit _ _ (lit≤ tt) (clock-byte text 3 long (lit< tt) all),
      is_digit _ _ (lit≤ tt) (clock-byte text 4 long (lit< tt) all),
      is_mark colon _ (clock-byte text 5 long (lit< tt) all),
      is_digit _ _ (lit≤ tt) (clock-byte text 6 long (lit< tt) all),
      is_digit _ _ (lit≤ tt) (clock-byte text 7 long (lit< tt) all),
    ) refl

looks-day : (text : List ℕ) → 19 ≤ length text
    → AreBetween lowest_date (take 16 text) highest_date → two_digits_at text 8 ≡ true
looks-day text long all =
    rw (
      is_digit _ _ (lit≤ tt) (date-byte text 8 long (lit< tt) all),
      is_digit _ _ (lit≤ tt) (date-byte text 9 long (lit< tt) all),
    ) refl

pub full-clock : (text : List ℕ) → 19 ≤ length text
    → AreBetween lowest_date (take 16 text) highest_date
    → AreBetween lowest_clock (take 16 (drop 3 text)) highest_clock → HasFullClock text
full-clock text long date clock =
    search (rules, clock-byte, looks-date, looks-day, looks-clock, below-60)

abbrev pub highest_offset : List ℕ
highest_offset = 50 ∷ 57 ∷ 58 ∷ 53 ∷ 57 ∷ 255 ∷ 255 ∷ 255 ∷ []

-- eight bytes between those of these two begin as an hour and a minute
abbrev pub LooksLikeOffset : List ℕ → Type 0
LooksLikeOffset bytes = AreBetween hour_and_minute_form bytes highest_offset
    → (5 ≤ fit_length hour_and_minute_form bytes) × (two_digit_value bytes 3 ≤ 59)

offset-byte : (bytes : List ℕ) (k : ℕ) → length bytes ≡ 8 → k < 8
    → AreBetween hour_and_minute_form bytes highest_offset
    → (get_or hour_and_minute_form k 0 ≤ get_or bytes k 0)
    × (get_or bytes k 0 ≤ get_or highest_offset k 0)
offset-byte bytes k long small all = search (rules, and_parts, at_most-at)

looks-eight : (a b c d e f g h : ℕ) → LooksLikeOffset (a ∷ b ∷ c ∷ d ∷ e ∷ f ∷ g ∷ h ∷ [])
looks-eight a b c d e f g h all =
    let bytes : List ℕ = a ∷ b ∷ c ∷ d ∷ e ∷ f ∷ g ∷ h ∷ [] in
    let byte = λ (k : ℕ) (small : k < 8). offset-byte bytes k refl small all in
    let fits : 5 ≤ fit_length hour_and_minute_form bytes =
    rw (
      is_digit _ a (lit≤ tt) (byte 0 (lit< tt)),
      is_digit _ b (lit≤ tt) (byte 1 (lit< tt)),
      is_mark colon c (byte 2 (lit< tt)),
      is_digit _ d (lit≤ tt) (byte 3 (lit< tt)),
      is_digit _ e (lit≤ tt) (byte 4 (lit< tt)),
    ) (omega arith) in
    (fits, below-60 d e (byte 3 (lit< tt)) (byte 4 (lit< tt)))

pub looks-offset : (bytes : List ℕ) → length bytes ≡ 8 → LooksLikeOffset bytes
looks-offset = by_eight LooksLikeOffset looks-eight

-- a date, a separator, a clock and an offset, or none, are a date-time at the front of a text
front-is : (assumes_utc : Bool) (text : List ℕ) (date : Ymd) (clock : Clock) (offset : ℤ × ℕ)
    → (is : IsFullFront assumes_utc text date clock offset) → (behavior : Behavior)
    → date_time_front behavior text
    ≡ Ok (
      record { date = date; time = clock_with_offset clock is.found.offset },
      11 + (clock.size + offset.1),
    )
front-is assumes_utc text date clock offset is behavior =
    grind (arith, nat_tests, date_time_front-is, time_front-is)

-- its offset is absent if it takes no bytes
pub full-front : (text : List ℕ) (date : Ymd) (clock : Clock) (offset : ℤ × ℕ)
    → IsFullFront true text date clock offset → (behavior : Behavior)
    → date_time_front behavior text
    ≡ Ok (
      record {
        date = date;
        time = clock_with_offset clock (if offset.1 == 0 then None else Some offset.0);
      },
      11 + (clock.size + offset.1),
    )
full-front text date clock offset is behavior = grind (arith, nat_tests, front-is)

-- its microsecond in UTC is that of the date, the clock and the offset
pub utc-front : (assumes_utc : Bool) (text : List ℕ) (date : Ymd) (clock : Clock) (offset : ℤ × ℕ)
    (number : ℤ) → IsFullFront assumes_utc text date clock offset
    → number ≡ utc_microsecond
    (record { date = date; time = clock_with_offset clock (Some offset.0) })
    → IsUtcFront assumes_utc text (number, 11 + (clock.size + offset.1))
utc-front assumes_utc text date clock offset number full is =
    let size : ℕ = 11 + (clock.size + offset.1) in
    let found = full.found in
    let time = clock_with_offset clock found.offset in
    let value : DateAndTime = record { date = date; time = time } in
    let within : size ≤ length text = full.within in
    let front = front-is assumes_utc text date clock offset full in
    let no_control = date_time_front-no_control Behavior.Error text in
    record {
      value = value;
      within = within;
      read = λ behavior. date_time_front-alone behavior text (value, size) (front behavior) within;
      number = ap (λ (second : ℤ). pos 1000000 *ℤ (local_second value -ℤ second)
          +ℤ pos clock.microsecond) found.second ∙ sym is;
      offset = found.there;
      no_control = read-value (λ (read : DateAndTime × ℕ). HasNoControl read.1 text) _
          (value, size) (front Behavior.Error) no_control;
    }
