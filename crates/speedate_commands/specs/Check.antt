-- The command `check`: a report of each bad value and, if these are asked for, of each value that
-- is earlier than the one before, or comes too long after it.
use Rattle.std.specs.Prelude.{◌≡◌, ℕ, ℤ, ◌+◌, ◌-◌, ◌^◌, min, ◌&&◌, ◌||◌, Bool, true, false, not, List, [], ◌∷◌, ◌++◌, Option, Some, None, is_some, int_lt, if◌then◌else◌}
use Rattle.std.specs.Borrow.{Bor}
use Rattle.speedate_stream.specs.Machine.{Machine, head, state_after}
use Rattle.speedate_stream.specs.Watch.{one_more}
use Rattle.speedate_scan.specs.Print.{call_kind, report_text}
use Rattle.speedate.specs.Base.{Behavior}
use Rattle.speedate_scan.specs.Scan.{begun, found_in, is_found, is_stopped, line_of, lines_before}
use Rattle.speedate_scan.specs.Scan.{passed}
use Rattle.speedate_scan.specs.declared.scan.Offsets.{Offsets}
use Rattle.speedate_commands.specs.Base.{Bad, Found, LineKind, Scan}
use Rattle.speedate_commands.specs.Nanosecond.{distance}
use Rattle.speedate_commands.specs.Order.{Latest, gap_text, late_text, order_after, order_after_cut}
use Rattle.speedate_commands.specs.Runs.{About}
pub use Rattle.speedate_commands.specs.declared.check.Check.{Check}

-- values are compared with the one before
abbrev pub compares : Check → Bool
compares check = check.reports_late || is_some check.gap

-- a gap is given, there is a value before, and this one comes more than the gap after it
abbrev pub is_after_gap : Option ℤ → ℤ → Option Latest → Bool
is_after_gap None instant latest = false
is_after_gap (Some gap) instant None = false
is_after_gap (Some gap) instant (Some latest) = int_lt gap (distance latest.instant instant)

-- the report of a value, by the one before
abbrev pub value_report : Check → ℤ → Option Latest → List ℕ
value_report check instant None = []
value_report check instant (Some latest) =
    let scan = check.order.scan in
    if check.reports_late && int_lt instant latest.instant
    then late_text scan.name.now (one_more scan.number) instant latest
    else if is_after_gap check.gap instant (Some latest)
    then gap_text scan.name.now (one_more scan.number) instant latest
    else []

-- the report of a bad value
abbrev pub bad_report : Scan → Bad → List ℕ
bad_report scan bad =
    report_text scan.name.now (one_more scan.number) bad (call_kind scan.reader.form)

-- digits past the microsecond are bad
abbrev pub are_bad : Behavior → Bool
are_bad Behavior.Error = true
are_bad Behavior.Truncate = false

-- the same lines, in which digits past the microsecond are cut off
abbrev pub cutting : Scan → Scan
cutting scan = record scan { reader = record scan.reader { behavior = Behavior.Truncate } }

-- what a bad line has as its value to be compared, if only its digits are bad
abbrev pub cut_value_of : Scan → List ℕ → LineKind → Option Found
cut_value_of scan head (LineKind.Bad bad) = found_in (line_of (cutting scan) head)
cut_value_of scan head (LineKind.Value found) = None
cut_value_of scan head LineKind.Late = None
cut_value_of scan head LineKind.Header = None
cut_value_of scan head LineKind.Unfit = None
cut_value_of scan head LineKind.Undated = None

abbrev pub cut_value : Check → List ℕ → LineKind → Option Found
cut_value check head line =
    if compares check && are_bad check.order.scan.reader.behavior
    then cut_value_of check.order.scan head line else None

-- what is reported of a line by itself, or by the value before
abbrev pub line_text : Check → LineKind → List ℕ
line_text check (LineKind.Bad bad) = bad_report check.order.scan bad
line_text check (LineKind.Value found) = value_report check found.instant check.order.latest
line_text check LineKind.Late = []
line_text check LineKind.Header = []
line_text check LineKind.Unfit = []
line_text check LineKind.Undated = []

-- what is reported of a value of which only the digits are bad, by the value before
abbrev pub cut_text : Check → Option Found → List ℕ
cut_text check None = []
cut_text check (Some found) = value_report check found.instant check.order.latest

-- what is reported of a line
abbrev pub check_text : Check → LineKind → Option Found → List ℕ
check_text check line cut = line_text check line ++ cut_text check cut

-- how many values came after a gap, after a line that has this value to be compared
abbrev pub gaps_after : Check → Option Found → ℕ
gaps_after check None = check.gaps
gaps_after check (Some found) =
    if is_after_gap check.gap found.instant check.order.latest then one_more check.gaps
    else check.gaps

-- what is known after a line where values are compared
abbrev pub compared_after : Check → LineKind → Option Found → Check
compared_after check line None =
    record check { order = order_after check.order line; gaps = gaps_after check (found_in line) }
compared_after check line (Some found) = record check {
  order = order_after_cut check.order line found;
  gaps = gaps_after check (Some found);
}

-- what is known after a line
abbrev pub check_after : Check → LineKind → Option Found → Check
check_after check line cut =
    if compares check then compared_after check line cut
    else record check { order = record check.order { scan = passed check.order.scan line } }

-- all values fit
abbrev pub takes_any : Offsets → Bool
takes_any Offsets.Any = true
takes_any Offsets.AsFirst = false
takes_any (Offsets.Only has_offset) = false
takes_any (Offsets.AsBounds has_offset) = false

-- each value is looked at by itself, all fit, the first one came, and the run has not ended
abbrev pub is_plain : Check → Bool
is_plain check =
    not (compares check)
    && (takes_any check.order.scan.offsets
    && (is_found check.order.scan.first && not (is_stopped check.order.scan.stop)))

-- the reports, and no line itself
abbrev pub check_machine : Machine Check
check_machine = record {
  after = λ check head. let line = line_of check.order.scan head in
      check_after check line (cut_value check head line);
  text = λ check head. let line = line_of check.order.scan head in
      check_text check line (cut_value check head line);
  rest = λ check head. None;
  done = λ check. is_stopped check.order.scan.stop;
}

-- what `check` prints of lines: the reports of each
abbrev pub check_lines : Check → List (List ℕ) → List ℕ
check_lines check [] = []
check_lines check (line ∷ lines) =
    let what = line_of check.order.scan (head line) in
    let cut = cut_value check (head line) what in
    check_text check what cut ++ check_lines (check_after check what cut) lines

-- What a run over files knows.

-- what is known when a file with a name begins
abbrev pub check_begun : Check → Bor (List ℕ) → Check
check_begun check name =
    record check { order = record check.order { scan = begun check.order.scan name } }

-- how many values were reported as earlier than the one before, or as after a gap
abbrev pub reported : Check → ℕ
reported check =
    min ((if check.reports_late then check.order.late else 0) + check.gaps) (2 ^ 64 - 1)

-- what a run over files has to know of the command
abbrev pub check_about : Check → About
check_about check = record {
  kind = call_kind check.order.scan.reader.form;
  tells_bad = false;
  before = lines_before check.order.scan.first;
  reported = reported check;
  is_too_large = false;
  is_in_order = false;
}

-- what is known after the lines of a file, and what is printed of them
abbrev pub check_says : Check → List (List ℕ) → Check → List ℕ → Type 0
check_says before lines after printed =
    (after ≡ state_after check_machine before lines) × (printed ≡ check_lines before lines)
