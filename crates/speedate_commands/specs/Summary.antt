-- The command `summary`: how many lines and values there are, the earliest and the latest, and the
-- longest gap.
use Rattle.std.specs.Prelude.{◌≡◌, ℕ, ℤ, pos, negsuc, ◌+ℤ◌, Bool, true, false, List, [], ◌∷◌, ◌++◌, Option, Some, None, unwrap_or, Result, Ok, Err, int_lt, codes, decimal, if◌then◌else◌}
use Rattle.std.specs.Borrow.{Bor}
use Rattle.std.specs.Int.{int_div_euclid}
use Rattle.std.specs.Result.{result_or}
use Rattle.speedate.specs.Ascii.{line_feed}
use Rattle.speedate.specs.Base.{ParseError, TimestampUnit}
use Rattle.speedate.specs.DateTime.{DateAndTime, date_time_timestamp_answer}
use Rattle.speedate.specs.DateTime.{date_time_with_offset}
use Rattle.speedate.specs.Requirement.{◌>>=◌}
use Rattle.speedate_stream.specs.Machine.{Machine, head}
use Rattle.speedate_stream.specs.Watch.{one_more}
use Rattle.speedate_commands.specs.Nanosecond.{date_time_with, digits_needed, distance}
use Rattle.speedate_commands.specs.Nanosecond.{duration_between, past_second}
use Rattle.speedate_commands.specs.Order.{Latest, latest_of, order_after}
use Rattle.speedate_scan.specs.Print.{call_kind, line_place}
use Rattle.speedate_scan.specs.Scan.{begun, is_counted, is_stopped, is_value, line_of}
use Rattle.speedate_commands.specs.Base.{LineKind, Scan}
use Rattle.speedate_commands.specs.Runs.{About}
pub use Rattle.speedate_commands.specs.declared.summary.Gap.{Gap}
pub use Rattle.speedate_commands.specs.declared.summary.Summary.{Summary}

-- What the lines add up to.

-- a count, with one more if there is one
abbrev pub one_more_if : Bool → ℕ → ℕ
one_more_if is_one count = if is_one then one_more count else count

-- a line has no value
abbrev pub is_undated : LineKind → Bool
is_undated LineKind.Undated = true
is_undated (LineKind.Value found) = false
is_undated LineKind.Late = false
is_undated LineKind.Header = false
is_undated (LineKind.Bad bad) = false
is_undated LineKind.Unfit = false

-- the earlier of two values, of which the first may be missing; of equal ones the first
abbrev pub earlier_of : Option Latest → Latest → Latest
earlier_of None value = value
earlier_of (Some kept) value = if int_lt value.instant kept.instant then value else kept

-- the later of two values, of which the first may be missing; of equal ones the first
abbrev pub later_of : Option Latest → Latest → Latest
later_of None value = value
later_of (Some kept) value = if int_lt kept.instant value.instant then value else kept

-- one of two values, after a line: the value so far, and that of the line
abbrev pub value_after : (Option Latest → Latest → Latest) → Scan → Option Latest → LineKind
    → Option Latest
value_after chosen scan kept (LineKind.Value found) = Some (chosen kept (latest_of scan found))
value_after chosen scan kept LineKind.Late = kept
value_after chosen scan kept LineKind.Header = kept
value_after chosen scan kept (LineKind.Bad bad) = kept
value_after chosen scan kept LineKind.Unfit = kept
value_after chosen scan kept LineKind.Undated = kept

-- the nanoseconds from one value to the next
abbrev pub gap_size : Gap → ℤ
gap_size gap = distance gap.from gap.to.instant

-- the nanoseconds of the longest gap: 0 if there is none
abbrev pub longest_size : Option Gap → ℤ
longest_size None = pos 0
longest_size (Some gap) = gap_size gap

-- the longest gap, after one more: the earlier one of two that are equally long
abbrev pub longer : Option Gap → Gap → Option Gap
longer longest gap = if int_lt (longest_size longest) (gap_size gap) then Some gap else longest

-- the longest gap, after a value
abbrev pub longest_with : Option Gap → Option Latest → Latest → Option Gap
longest_with longest None value = longest
longest_with longest (Some before) value =
    longer longest (record { from = before.instant; to = value })

-- the longest gap, after a line
abbrev pub longest_after : Summary → LineKind → Option Gap
longest_after summary (LineKind.Value found) =
    longest_with summary.longest summary.order.latest (latest_of summary.order.scan found)
longest_after summary LineKind.Late = summary.longest
longest_after summary LineKind.Header = summary.longest
longest_after summary (LineKind.Bad bad) = summary.longest
longest_after summary LineKind.Unfit = summary.longest
longest_after summary LineKind.Undated = summary.longest

-- the summary, after a line
abbrev pub summary_after : Summary → LineKind → Summary
summary_after summary line = record {
  order = order_after summary.order line;
  lines = one_more_if (is_counted line) summary.lines;
  values = one_more_if (is_value line) summary.values;
  undated = one_more_if (is_undated line) summary.undated;
  earliest = value_after earlier_of summary.order.scan summary.earliest line;
  latest = value_after later_of summary.order.scan summary.latest line;
  longest = longest_after summary line;
}

-- the summary, after lines: each adds to it
abbrev pub summary_of : Summary → List (List ℕ) → Summary
summary_of summary [] = summary
summary_of summary (line ∷ lines) =
    summary_of (summary_after summary (line_of summary.order.scan (head line))) lines

-- lines are added up, and none is printed
abbrev pub summary_machine : Machine Summary
summary_machine = record {
  after = λ summary head. summary_after summary (line_of summary.order.scan head);
  text = λ summary head. [];
  rest = λ summary head. None;
  done = λ summary. is_stopped summary.order.scan.stop;
}

-- lines were added to the summary
abbrev pub IsSummaryAfter : Summary → List (List ℕ) → Summary → Type 0
IsSummaryAfter before lines after = after ≡ summary_of before lines

-- What is printed of them.

-- a number, or the nearest one that fits 64 bits
abbrev pub within_64_bits : ℤ → ℤ
within_64_bits number =
    if int_lt number (negsuc 9223372036854775807) then negsuc 9223372036854775807
    else if int_lt (pos 9223372036854775807) number then pos 9223372036854775807
    else number

-- the whole second that a clock at an offset shows: one beyond 64 bits is the nearest that fits
abbrev pub clock_second : Option ℤ → ℤ → ℤ
clock_second offset instant =
    within_64_bits (int_div_euclid instant (pos 1000000000) +ℤ unwrap_or offset (pos 0))

-- what a clock at an offset shows at an instant, without the fraction, in the years 0000 to 9999
unfoldable pub clock_at : Option ℤ → ℤ → Result DateAndTime ParseError
clock_at offset instant = do
  value ← date_time_timestamp_answer TimestampUnit.Second None 0 (clock_second offset instant)
  date_time_with_offset offset value

-- the date-time by which an instant is shown, without its fraction: in UTC if it has an offset, or
-- at its own offset if UTC is not in the years 0000 to 9999; without an offset, as a clock shows it
unfoldable pub shown_at : Option ℤ → ℤ → Result DateAndTime ParseError
shown_at None instant = clock_at None instant
shown_at (Some offset) instant =
    result_or (clock_at (Some (pos 0)) instant) (clock_at (Some offset) instant)

-- the text of what can be shown, with the digits of a nanosecond
abbrev pub shown_text : {E : Type 0} → ℕ → Result DateAndTime E → List ℕ
shown_text nanosecond (Ok value) = date_time_with (digits_needed nanosecond) nanosecond value
shown_text nanosecond (Err fault) = []

-- the text of a value
unfoldable pub instant_text : Option ℤ → ℤ → List ℕ
instant_text offset instant = shown_text (past_second instant) (shown_at offset instant)

-- a line with a name and a count
unfoldable pub count_text : List ℕ → ℕ → List ℕ
count_text name count = name ++ decimal count ++ line_feed ∷ []

unfoldable pub counts_text : Summary → List ℕ
counts_text summary =
    count_text (codes "lines ") summary.lines ++ count_text (codes "values ") summary.values
    ++ count_text (codes "undated ") summary.undated
    ++ count_text (codes "bad ") summary.order.scan.bad
    ++ count_text (codes "out of order ") summary.order.late

-- a line with a name and a value, if there is one
unfoldable pub named_text : List ℕ → Option Latest → List ℕ
named_text name None = []
named_text name (Some value) =
    name ++ instant_text value.offset value.instant ++ line_feed ∷ []

-- a line with how long a gap is, and where its second value stands
unfoldable pub gap_length : List ℕ → Gap → List ℕ
gap_length name gap = name ++ duration_between gap.from gap.to.instant

unfoldable pub gap_end : Gap → List ℕ
gap_end gap = codes " before " ++ line_place gap.to.name.now gap.to.number ++ line_feed ∷ []

abbrev pub gap_text : Gap → List ℕ
gap_text gap = gap_length (codes "longest gap ") gap ++ gap_end gap

unfoldable pub longest_text : Option Gap → List ℕ
longest_text None = []
longest_text (Some gap) = gap_text gap

-- the summary
unfoldable pub summary_text : Summary → List ℕ
summary_text summary =
    counts_text summary ++ named_text (codes "earliest ") summary.earliest
    ++ named_text (codes "latest ") summary.latest ++ longest_text summary.longest

-- What a run over files knows.

-- what is known when a file with a name begins
abbrev pub summary_begun : Summary → Bor (List ℕ) → Summary
summary_begun summary name =
    record summary { order = record summary.order { scan = begun summary.order.scan name } }

-- what a run over files has to know of the command
abbrev pub summary_about : Summary → About
summary_about summary = record {
  kind = call_kind summary.order.scan.reader.form;
  tells_bad = true;
  before = 0;
  reported = summary.order.late;
  is_too_large = false;
  is_in_order = false;
}

-- what is known after the lines of a file, of which nothing is printed
abbrev pub summary_says : Summary → List (List ℕ) → Summary → List ℕ → Type 0
summary_says before lines after printed =
    IsSummaryAfter before lines after × (printed ≡ [])
