-- The command `convert`: each line with its value written anew.
use Rattle.std.specs.Prelude.{◌≡◌, ℕ, ℤ, true, false, ◌==◌, ◌∷◌, ◌++◌, List, [], min, take, Option, Some, None, is_some, Result, Ok, Err, if◌then◌else◌}
use Rattle.std.specs.Result.{result_ok}
use Rattle.speedate.specs.Base.{ParseError}
use Rattle.speedate.specs.Date.{date_text}
use Rattle.speedate.specs.DateTime.{DateAndTime, date_time_in_timezone, date_time_text_with}
use Rattle.speedate.specs.declared.FractionDigits.{FractionDigits}
use Rattle.std.specs.Borrow.{Bor}
use Rattle.speedate_stream.specs.Machine.{Machine, head, rest_of, state_after}
use Rattle.speedate_stream.specs.Watch.{one_more}
use Rattle.speedate_scan.specs.Print.{call_kind, prefix_text}
use Rattle.speedate_scan.specs.Fraction.{fraction_size}
use Rattle.speedate_scan.specs.Reading.{part, value_of}
use Rattle.speedate_scan.specs.Scan.{begun, is_stopped, keeps, line_of, lines_before, passed}
use Rattle.speedate_commands.specs.Base.{Bad, Form, Found, LineKind, Why}
use Rattle.speedate_commands.specs.Nanosecond.{date_time_with, past_second}
use Rattle.speedate_commands.specs.Runs.{About}
pub use Rattle.speedate_commands.specs.declared.convert.Target.{Target}
pub use Rattle.speedate_commands.specs.declared.convert.Convert.{Convert}

-- the byte to report of a value that cannot be written: the end of one without an offset, or else
-- its first byte
abbrev pub target_place : Found → ℕ
target_place found = if is_some found.offset then found.from else found.to

-- a value that can be written, or what is bad about it
abbrev pub writable : Found → Result DateAndTime ParseError → Result DateAndTime Bad
writable found (Ok value) = Ok value
writable found (Err fault) = Err (record { place = target_place found; why = Why.Parse fault })

-- a value as it is written: at its own offset, or as a clock at another one shows the same instant
abbrev pub targeted : Target → Found → DateAndTime → Result DateAndTime Bad
targeted Target.Own found value = Ok value
targeted (Target.Offset offset) found value = writable found (date_time_in_timezone offset value)

-- the value that was read, as it is written
abbrev pub written_from : Target → Found → Result (DateAndTime × ℕ) Bad → Result DateAndTime Bad
written_from target found (Ok front) = targeted target found front.0
written_from target found (Err bad) = Err bad

-- the value of a line as it is written, or what is bad about it
unfoldable pub written_value : Convert → List ℕ → Found → Result DateAndTime Bad
written_value convert head found =
    written_from convert.target found (value_of convert.scan.reader head found)

-- how many digits a value has after its second: those of its text, at most nine; a Unix timestamp
-- has six, or none if its microsecond is 0
abbrev pub own_digits : Form → List ℕ → ℕ → ℕ
own_digits Form.DateTime text microsecond = min (fraction_size text) 9
own_digits Form.Strict text microsecond = min (fraction_size text) 9
own_digits Form.Date text microsecond = min (fraction_size text) 9
own_digits (Form.Timestamp unit) text microsecond = if microsecond == 0 then 0 else 6

-- with how many digits after its second a value is written: with its own, if none are asked for
abbrev pub written_digits : Option ℕ → ℕ → ℕ
written_digits None own = own
written_digits (Some count) own = min count 9

-- the digits after a second that the library prints, if it prints so many
abbrev pub library_digits : ℕ → Option FractionDigits
library_digits count =
    if count == 0 then Some FractionDigits.Zero
    else if count == 3 then Some FractionDigits.Three
    else if count == 6 then Some FractionDigits.Six
    else None

-- a date-time in print, with so many digits: as the library prints them, or those of its instant
abbrev pub text_with : Option FractionDigits → ℕ → ℤ → DateAndTime → List ℕ
text_with None count instant value = date_time_with count (past_second instant) value
text_with (Some digits) count instant value = date_time_text_with digits value

-- a value in print, with so many digits of its instant: a date for dates, otherwise a date-time
unfoldable pub written_text : Form → ℕ → ℤ → DateAndTime → List ℕ
written_text Form.Date count instant value = date_text value.date
written_text Form.DateTime count instant value =
    text_with (library_digits count) count instant value
written_text Form.Strict count instant value = text_with (library_digits count) count instant value
written_text (Form.Timestamp unit) count instant value =
    text_with (library_digits count) count instant value

-- a value that was found in a line, as it is written, if there is one
abbrev pub text_of : Convert → List ℕ → Found → Option DateAndTime → List ℕ
text_of convert head found (Some value) =
    let form = convert.scan.reader.form in
    let own = own_digits form (part head found.from found.to) value.time.microsecond in
    written_text form (written_digits convert.digits own) found.instant value
text_of convert head found None = []

-- a line whose value cannot be written is bad
abbrev pub line_by_value : Found → Result DateAndTime Bad → LineKind
line_by_value found (Ok value) = LineKind.Value found
line_by_value found (Err bad) = LineKind.Bad bad

abbrev pub line_with_value : Convert → List ℕ → LineKind → LineKind
line_with_value convert head (LineKind.Value found) =
    line_by_value found (written_value convert head found)
line_with_value convert head LineKind.Late = LineKind.Late
line_with_value convert head LineKind.Header = LineKind.Header
line_with_value convert head (LineKind.Bad bad) = LineKind.Bad bad
line_with_value convert head LineKind.Unfit = LineKind.Unfit
line_with_value convert head LineKind.Undated = LineKind.Undated

-- what a line is
abbrev pub convert_line : Convert → List ℕ → LineKind
convert_line convert head = line_with_value convert head (line_of convert.scan head)

-- the value of a line as it is written, if it has one
abbrev pub written_of : Convert → List ℕ → LineKind → Option DateAndTime
written_of convert head (LineKind.Value found) = result_ok (written_value convert head found)
written_of convert head LineKind.Late = None
written_of convert head LineKind.Header = None
written_of convert head (LineKind.Bad bad) = None
written_of convert head LineKind.Unfit = None
written_of convert head LineKind.Undated = None

-- the bytes of a line before its value, and the value written anew
abbrev pub value_text : Convert → List ℕ → LineKind → List ℕ
value_text convert head (LineKind.Value found) =
    take found.from head
    ++ text_of convert head found (written_of convert head (LineKind.Value found))
value_text convert head LineKind.Late = []
value_text convert head LineKind.Header = []
value_text convert head (LineKind.Bad bad) = []
value_text convert head LineKind.Unfit = []
value_text convert head LineKind.Undated = []

-- what is printed before the rest of a line
abbrev pub convert_text : Convert → List ℕ → LineKind → List ℕ
convert_text convert head line =
    if keeps convert.scan line
    then prefix_text convert.prefix convert.scan.name.now (one_more convert.scan.number)
    ++ value_text convert head line
    else []

-- the byte after a value, or the first one of a line that has none
abbrev pub rest_start : LineKind → ℕ
rest_start (LineKind.Value found) = found.to
rest_start LineKind.Late = 0
rest_start LineKind.Header = 0
rest_start (LineKind.Bad bad) = 0
rest_start LineKind.Unfit = 0
rest_start LineKind.Undated = 0

-- the rest of a line: what stands after its value, or all of it
abbrev pub convert_rest : Convert → LineKind → Option ℕ
convert_rest convert line = if keeps convert.scan line then Some (rest_start line) else None

-- each line with its value written anew
abbrev pub convert_machine : Machine Convert
convert_machine = record {
  after = λ convert head.
      record convert { scan = passed convert.scan (convert_line convert head) };
  text = λ convert head. convert_text convert head (convert_line convert head);
  rest = λ convert head. convert_rest convert (convert_line convert head);
  done = λ convert. is_stopped convert.scan.stop;
}

-- the prefix of a line
abbrev pub line_prefix : Convert → List ℕ
line_prefix convert =
    prefix_text convert.prefix convert.scan.name.now (one_more convert.scan.number)

-- what is printed of a line: what stands before its value, the value written anew, and what stands
-- after it; a line that has none as it is, unless it is left out
abbrev pub converted : Convert → List ℕ → LineKind → List ℕ
converted convert line (LineKind.Value found) =
    line_prefix convert ++ take found.from (head line)
    ++ text_of convert (head line) found (written_of convert (head line) (LineKind.Value found))
    ++ rest_of (Some found.to) line
converted convert line LineKind.Header = line_prefix convert ++ rest_of (Some 0) line
converted convert line (LineKind.Bad bad) =
    if keeps convert.scan (LineKind.Bad bad)
    then line_prefix convert ++ rest_of (Some 0) line else []
converted convert line LineKind.Undated =
    if keeps convert.scan LineKind.Undated then line_prefix convert ++ rest_of (Some 0) line else []
converted convert line LineKind.Late = []
converted convert line LineKind.Unfit = []

-- what `convert` prints of lines
abbrev pub convert_lines : Convert → List (List ℕ) → List ℕ
convert_lines convert [] = []
convert_lines convert (line ∷ lines) =
    let what = convert_line convert (head line) in
    converted convert line what
    ++ convert_lines (record convert { scan = passed convert.scan what }) lines

-- What a run over files knows.

-- what is known when a file with a name begins
abbrev pub convert_begun : Convert → Bor (List ℕ) → Convert
convert_begun convert name = record convert { scan = begun convert.scan name }

-- what a run over files has to know of the command
abbrev pub convert_about : Convert → About
convert_about convert = record {
  kind = call_kind convert.scan.reader.form;
  tells_bad = true;
  before = lines_before convert.scan.first;
  reported = 0;
  is_too_large = false;
  is_in_order = false;
}

-- what is known after the lines of a file, and what is printed of them
abbrev pub convert_says : Convert → List (List ℕ) → Convert → List ℕ → Type 0
convert_says before lines after printed =
    (after ≡ state_after convert_machine before lines) × (printed ≡ convert_lines before lines)
