-- The command `sum`: the total of the durations of lines.
use Rattle.std.specs.Prelude.{◌≡◌, ℕ, ℤ, true, false, ◌+◌, ◌*◌, ◌/◌, ◌%◌, ◌+ℤ◌, ◌^◌, ◌&&◌, Bool, List, [], ◌∷◌, ◌++◌, Option, Some, None, Result, Ok, Err, is_err, not, nat_lt, decimal, unsigned_abs, if◌then◌else◌}
use Rattle.std.specs.Borrow.{Bor}
use Rattle.std.specs.List.{fold}
use Rattle.std.specs.Result.{result_unwrap_or}
use Rattle.speedate.specs.Ascii.{capital_d, colon, hyphen, line_feed}
use Rattle.speedate.specs.Base.{CallKind, ParseError}
use Rattle.speedate.specs.Duration.{amount_answer, counted_text, rest_text, signed_amount}
use Rattle.speedate.specs.Duration.{start_text}
use Rattle.speedate.specs.DurationNumbers.{DurationNumbers}
use Rattle.speedate.specs.Requirement.{result_map}
use Rattle.speedate.specs.Time.{fraction_text, minute_text}
use Rattle.speedate_stream.specs.Machine.{Machine, head}
use Rattle.speedate_scan.specs.Amount.{amount_of}
use Rattle.speedate_scan.specs.Scan.{begun, is_stopped, passed, valued}
use Rattle.speedate_commands.specs.Base.{LineKind, Scan}
use Rattle.speedate_commands.specs.Runs.{About}
pub use Rattle.speedate_commands.specs.declared.sum.Sum.{Sum}

-- What is added.

-- what is known of the lines after one more
abbrev pub scan_after : Scan → Result DurationNumbers LineKind → Scan
scan_after scan (Ok numbers) = valued scan
scan_after scan (Err line) = passed scan line

-- the durations of lines, in order
abbrev pub with_first : Result DurationNumbers LineKind → List DurationNumbers
    → List DurationNumbers
with_first (Ok numbers) others = numbers ∷ others
with_first (Err line) others = others

abbrev pub amounts_of : Scan → List (List ℕ) → List DurationNumbers
amounts_of scan [] = []
amounts_of scan (line ∷ lines) =
    let amount = amount_of scan (head line) in
    with_first amount (amounts_of (scan_after scan amount) lines)

-- the sum of a number of microseconds and of durations, each with its sign
abbrev pub sum_from : ℤ → List DurationNumbers → ℤ
sum_from total durations = fold (λ sum numbers. sum +ℤ signed_amount numbers) total durations

-- What is kept of the sum.

-- a total with one more duration; none after more microseconds than 2^126, which no number of lines
-- has that a computer can read
abbrev pub with_amount : Option ℤ → DurationNumbers → Option ℤ
with_amount None numbers = None
with_amount (Some total) numbers =
    if nat_lt (unsigned_abs total) (2 ^ 126) then Some (total +ℤ signed_amount numbers) else None

abbrev pub total_after : Option ℤ → Result DurationNumbers LineKind → Option ℤ
total_after total (Ok numbers) = with_amount total numbers
total_after total (Err line) = total

-- the sum, after a line
abbrev pub sum_after : Sum → Result DurationNumbers LineKind → Sum
sum_after sum amount = record sum {
  scan = scan_after sum.scan amount;
  total = total_after sum.total amount;
}

-- the sum, after lines: each adds to it
abbrev pub sum_of : Sum → List (List ℕ) → Sum
sum_of sum [] = sum
sum_of sum (line ∷ lines) = sum_of (sum_after sum (amount_of sum.scan (head line))) lines

-- durations are added up, and no line is printed
abbrev pub sum_machine : Machine Sum
sum_machine = record {
  after = λ sum head. sum_after sum (amount_of sum.scan head);
  text = λ sum head. [];
  rest = λ sum head. None;
  done = λ sum. is_stopped sum.scan.stop;
}

-- a total is exactly what it was before and the durations that came, if one is kept
abbrev pub IsExact : Option ℤ → List DurationNumbers → Option ℤ → Type 0
IsExact (Some before) durations (Some after) = after ≡ sum_from before durations
IsExact (Some before) durations None = Unit {0}
IsExact None durations (Some after) = ⊥
IsExact None durations None = Unit {0}

-- the durations of lines were added
pub record IsSumAfter (before : Sum) (lines : List (List ℕ)) (after : Sum) : Type 0 where
  pub added : after ≡ sum_of before lines
  pub exact : IsExact before.total (amounts_of before.scan lines) after.total

-- What is printed of it.

-- the duration that a total is, or the fault of one that has too many days
abbrev pub total_answer : Option ℤ → Result DurationNumbers ParseError
total_answer None = Err ParseError.DurationDaysTooLarge
total_answer (Some total) = amount_answer total

-- a duration in print without years: its days, and what follows them
unfoldable pub in_days : DurationNumbers → List ℕ
in_days numbers =
    start_text numbers.positive ++ counted_text numbers.day capital_d ++ rest_text numbers

-- what follows the hours of a duration in hours: its minutes, its seconds, and their fraction
abbrev pub after_hours : DurationNumbers → List ℕ
after_hours numbers =
    colon ∷ minute_text (numbers.second / 60 % 60) (numbers.second % 60)
    ++ fraction_text numbers.microsecond

-- a duration in print in hours, of which a day has 24
unfoldable pub in_hours : DurationNumbers → List ℕ
in_hours numbers =
    (if numbers.positive then [] else hyphen ∷ [])
    ++ decimal (24 * numbers.day + numbers.second / 3600) ++ after_hours numbers

-- a duration in hours, or without years, with a line feed
abbrev pub duration_line : Bool → DurationNumbers → List ℕ
duration_line has_hours numbers =
    (if has_hours then in_hours numbers else in_days numbers) ++ line_feed ∷ []

-- no total is printed since it has too many days
abbrev pub is_too_large : Sum → Bool
is_too_large sum = not (is_stopped sum.scan.stop) && is_err (total_answer sum.total)

-- the total; nothing if it has too many days, or the run ended at a bad value
unfoldable pub total_text : Sum → List ℕ
total_text sum =
    if is_stopped sum.scan.stop then []
    else result_unwrap_or (result_map (duration_line sum.has_hours) (total_answer sum.total)) []

-- What a run over files knows.

-- what is known when a file with a name begins
abbrev pub sum_begun : Sum → Bor (List ℕ) → Sum
sum_begun sum name = record sum { scan = begun sum.scan name }

-- what a run over files has to know of the command
abbrev pub sum_about : Sum → About
sum_about sum = record {
  kind = CallKind.Duration;
  tells_bad = true;
  before = 0;
  reported = 0;
  is_too_large = is_too_large sum;
  is_in_order = false;
}

-- what is known after the lines of a file, of which nothing is printed
abbrev pub sum_says : Sum → List (List ℕ) → Sum → List ℕ → Type 0
sum_says before lines after printed =
    IsSumAfter before lines after × (printed ≡ [])
