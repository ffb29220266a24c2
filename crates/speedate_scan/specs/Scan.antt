-- What each line is to a command, and what is counted of the lines.
use Rattle.std.specs.Prelude.{ℕ, ◌+◌, ◌==◌, ◌&&◌, ◌||◌, Bool, true, false, not, List, drop, slice_index, slice_set, nat_lt, Option, Some, None, is_some, Result, if◌then◌else◌}
use Rattle.std.specs.Borrow.{Bor}
use Rattle.std.specs.Char.{is_ascii_digit}
use Rattle.std.specs.List.{position}
use Rattle.speedate_base.specs.Digits.{is_decimal_mark}
use Rattle.speedate.specs.Ascii.{colon, space}
use Rattle.speedate.specs.Base.{ParseError}
use Rattle.speedate.specs.DateTime.{DateAndTime}
use Rattle.speedate_stream.specs.Watch.{one_more}
use Rattle.speedate_scan.specs.Reading.{Bad, Form, Found, IsParsed, IsWithin, Reading, Why, part}
use Rattle.speedate_scan.specs.Reading.{read}
pub use Rattle.speedate_scan.specs.declared.scan.UndatedLines.{UndatedLines}
pub use Rattle.speedate_scan.specs.declared.scan.BadLines.{BadLines}
pub use Rattle.speedate_scan.specs.declared.scan.Offsets.{Offsets}
pub use Rattle.speedate_scan.specs.declared.scan.Stop.{Stop}
pub use Rattle.speedate_scan.specs.declared.scan.Report.{Report}
pub use Rattle.speedate_scan.specs.declared.scan.First.{First}
pub use Rattle.speedate_scan.specs.declared.scan.LineKind.{LineKind}
pub use Rattle.speedate_scan.specs.declared.scan.Scan.{Scan}

-- a value has an offset as it is to have one
abbrev pub has_as : Bool → Found → Bool
has_as true found = is_some found.offset
has_as false found = not (is_some found.offset)

-- a value fits
abbrev pub fits : Offsets → Found → Bool
fits Offsets.Any found = true
fits Offsets.AsFirst found = true
fits (Offsets.Only has_offset) found = has_as has_offset found
fits (Offsets.AsBounds has_offset) found = has_as has_offset found

-- which values fit after one that fits
abbrev pub settled : Offsets → Found → Offsets
settled Offsets.Any found = Offsets.Any
settled Offsets.AsFirst found = Offsets.Only (is_some found.offset)
settled (Offsets.Only has_offset) found = Offsets.Only (is_some found.offset)
settled (Offsets.AsBounds has_offset) found = Offsets.Only (is_some found.offset)

-- a byte of a clock: a digit, a colon or a decimal mark
abbrev pub is_clock_byte : ℕ → Bool
is_clock_byte byte = is_ascii_digit byte || (byte == colon) || is_decimal_mark byte

-- a place of a text, or the one after it if a blank is there
abbrev pub after_one_blank : List ℕ → ℕ → ℕ
after_one_blank text place = if slice_index text place == space then place + 1 else place

-- where the offset of a value begins, by the place of the first byte after its date and its
-- separator that is none of its clock; a timestamp has no such byte, and is in UTC as a whole
abbrev pub offset_from : List ℕ → Option ℕ → ℕ
offset_from text None = 0
offset_from text (Some size) = after_one_blank text (11 + size)

-- where the offset of a value begins in its text
abbrev pub offset_place : List ℕ → ℕ
offset_place text =
    offset_from text (position (λ byte. not (is_clock_byte byte)) (drop 11 text))

-- what is bad about a value that does not fit: its offset, or that there is none at its end
abbrev pub unfit : List ℕ → Found → Bad
unfit head found =
    if is_some found.offset
    then record {
      place = found.from + offset_place (part head found.from found.to);
      why = Why.NoOffset;
    }
    else record { place = found.to; why = Why.Parse ParseError.TzRequired }

-- a line whose value does not fit: if it is the first one, it does not fit the bounds
abbrev pub unfit_line : Offsets → List ℕ → Found → LineKind
unfit_line Offsets.Any head found = LineKind.Bad (unfit head found)
unfit_line Offsets.AsFirst head found = LineKind.Bad (unfit head found)
unfit_line (Offsets.Only has_offset) head found = LineKind.Bad (unfit head found)
unfit_line (Offsets.AsBounds has_offset) head found = LineKind.Unfit

-- a line without a value, which would begin at this byte
abbrev pub undated_line : UndatedLines → Form → ℕ → LineKind
undated_line UndatedLines.Bad form place =
    LineKind.Bad (record { place = place; why = Why.Undated form })
undated_line UndatedLines.Join form place = LineKind.Undated
undated_line UndatedLines.Drop form place = LineKind.Undated

-- what a line is by what is read of it
abbrev pub judged : Scan → List ℕ → Reading → LineKind
judged scan head (Reading.Value found) =
    if fits scan.offsets found then LineKind.Value found else unfit_line scan.offsets head found
judged scan head (Reading.Bad bad) = LineKind.Bad bad
judged scan head (Reading.Undated place) = undated_line scan.undated_lines scan.reader.form place

-- a run has ended before its input
abbrev pub is_stopped : Stop → Bool
is_stopped Stop.No = false
is_stopped Stop.AtBad = true
is_stopped Stop.AtUnfit = true

-- what a line is, by its head
unfoldable pub line_of : Scan → List ℕ → LineKind
line_of scan head =
    if is_stopped scan.stop then LineKind.Late
    else if scan.has_header && (scan.number == 0) then LineKind.Header
    else judged scan head (read scan.reader head)

-- what is bad about a line, if something is
abbrev pub bad_of : LineKind → Option Bad
bad_of (LineKind.Bad bad) = Some bad
bad_of (LineKind.Value found) = None
bad_of LineKind.Late = None
bad_of LineKind.Header = None
bad_of LineKind.Unfit = None
bad_of LineKind.Undated = None

-- the value of a line lies within it
abbrev pub IsFoundWithin : LineKind → List ℕ → Type 0
IsFoundWithin (LineKind.Value found) head = IsWithin found head
IsFoundWithin LineKind.Late head = Unit {0}
IsFoundWithin LineKind.Header head = Unit {0}
IsFoundWithin (LineKind.Bad bad) head = Unit {0}
IsFoundWithin LineKind.Unfit head = Unit {0}
IsFoundWithin LineKind.Undated head = Unit {0}

-- lines with a bad value are not left out
abbrev pub keeps_bad : BadLines → Bool
keeps_bad BadLines.Keep = true
keeps_bad BadLines.Stop = false

-- lines without a value are not left out
abbrev pub keeps_undated : UndatedLines → Bool
keeps_undated UndatedLines.Join = true
keeps_undated UndatedLines.Bad = true
keeps_undated UndatedLines.Drop = false

-- a line is not left out
abbrev pub keeps : Scan → LineKind → Bool
keeps scan LineKind.Header = true
keeps scan (LineKind.Value found) = true
keeps scan (LineKind.Bad bad) = keeps_bad scan.bad_lines
keeps scan LineKind.Undated = keeps_undated scan.undated_lines
keeps scan LineKind.Late = false
keeps scan LineKind.Unfit = false

-- What is known of the lines up to the first value.

-- how many lines came before the first entry, after one more that begins none
abbrev pub before_entry : First → ℕ
before_entry first = if first.has_entry then first.before else one_more first.before

-- a bad line has a value, which is bad
abbrev pub is_dated : Why → Bool
is_dated (Why.Undated form) = false
is_dated (Why.Parse fault) = true
is_dated Why.Within = true
is_dated Why.End = true
is_dated Why.Clock = true
is_dated Why.HalfDay = true
is_dated Why.NoOffset = true
is_dated Why.NoYearsOrMonths = true
is_dated Why.NoClock = true
is_dated Why.SixDigits = true

-- what is known after a line with a value
abbrev pub first_found : First → First
first_found first = record first { has_value = true; has_entry = true }

-- what is known after a line
abbrev pub first_after : First → LineKind → First
first_after first LineKind.Late = first
first_after first LineKind.Header = first
first_after first (LineKind.Value found) = first_found first
first_after first (LineKind.Bad bad) = record first {
  has_value = first.has_value || is_dated bad.why;
  before = before_entry first;
}
first_after first LineKind.Unfit = record first { has_value = true }
first_after first LineKind.Undated = record first { before = before_entry first }

-- no further line of the file changes what is known of the first value
abbrev pub is_found : First → Bool
is_found first = first.has_value && first.has_entry

-- how many lines came before the first entry, if one has begun: otherwise 0
abbrev pub lines_before : First → ℕ
lines_before first = if first.has_entry then first.before else 0

-- how many lines of a file are its header
abbrev pub headers : Bool → ℕ
headers true = 1
headers false = 0

-- what is known when a file with a name begins: its lines are counted anew
abbrev pub begun : Scan → Bor (List ℕ) → Scan
begun scan name = record scan {
  name = name;
  number = 0;
  first = record scan.first { has_value = false };
}

-- the lines that were counted are all of a file without any value; a header is not counted
abbrev pub is_without_value : Scan → Bool
is_without_value scan =
    not scan.first.has_value
    && (not (is_stopped scan.stop) && nat_lt (headers scan.has_header) scan.number)

-- a line was counted
abbrev pub counted : Scan → Scan
counted scan = record scan { number = one_more scan.number }

-- a line was counted that has a value
abbrev pub valued : Scan → Scan
valued scan = record (counted scan) { first = first_found scan.first }

-- the reports with one more, if it is one of the first ten
abbrev pub with_report : List Report → ℕ → Report → List Report
with_report reports count report =
    if nat_lt count 10 then slice_set reports count report else reports

-- a line was counted whose value is bad
abbrev pub noted : Scan → Bad → Scan
noted scan bad = record scan {
  number = one_more scan.number;
  bad = one_more scan.bad;
  reports = with_report scan.reports scan.bad
      (record { number = one_more scan.number; bad = bad });
}

-- whether the run has ended at a line whose value is bad
abbrev pub stop_at_bad : BadLines → Stop
stop_at_bad BadLines.Keep = Stop.No
stop_at_bad BadLines.Stop = Stop.AtBad

-- a line has a value
abbrev pub is_value : LineKind → Bool
is_value (LineKind.Value found) = true
is_value LineKind.Header = false
is_value (LineKind.Bad bad) = false
is_value LineKind.Undated = false
is_value LineKind.Late = false
is_value LineKind.Unfit = false

-- the value of a line
abbrev pub found_in : LineKind → Option Found
found_in (LineKind.Value found) = Some found
found_in LineKind.Header = None
found_in (LineKind.Bad bad) = None
found_in LineKind.Undated = None
found_in LineKind.Late = None
found_in LineKind.Unfit = None

-- a line is counted: it came before the run ended
abbrev pub is_counted : LineKind → Bool
is_counted LineKind.Late = false
is_counted LineKind.Header = true
is_counted (LineKind.Value found) = true
is_counted (LineKind.Bad bad) = true
is_counted LineKind.Unfit = true
is_counted LineKind.Undated = true

-- values are to have an offset
abbrev pub has_offsets : Offsets → Bool
has_offsets Offsets.Any = false
has_offsets Offsets.AsFirst = false
has_offsets (Offsets.Only has_offset) = has_offset
has_offsets (Offsets.AsBounds has_offset) = has_offset

-- what is known after a line
unfoldable pub passed : Scan → LineKind → Scan
passed scan LineKind.Late = scan
passed scan LineKind.Header = counted scan
passed scan LineKind.Undated =
    record (counted scan) { first = first_after scan.first LineKind.Undated }
passed scan (LineKind.Value found) =
    record (valued scan) { offsets = settled scan.offsets found }
passed scan (LineKind.Bad bad) = record (noted scan bad) {
  stop = if is_stopped (stop_at_bad scan.bad_lines) then Stop.AtBad else scan.stop;
  first = first_after scan.first (LineKind.Bad bad);
}
passed scan LineKind.Unfit = record (counted scan) {
  stop = Stop.AtUnfit;
  first = first_after scan.first LineKind.Unfit;
}

-- the value that was parsed of a line is the one that was found in it
abbrev pub IsLineParsed : (Found → Result (DateAndTime × ℕ) Bad) → LineKind → Option DateAndTime
    → Type 0
IsLineParsed value_of (LineKind.Value found) value = IsParsed value_of (Reading.Value found) value
IsLineParsed value_of LineKind.Late value = Unit {0}
IsLineParsed value_of LineKind.Header value = Unit {0}
IsLineParsed value_of (LineKind.Bad bad) value = Unit {0}
IsLineParsed value_of LineKind.Unfit value = Unit {0}
IsLineParsed value_of LineKind.Undated value = Unit {0}
