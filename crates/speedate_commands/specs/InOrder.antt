-- A file whose values are in order: a line is found in it by its value, and what stands before that
-- line need not be read.
use Rattle.std.specs.Prelude.{◌≡◌, ℕ, zero, suc, ℤ, ◌+◌, ◌-◌, ◌<◌, ◌≤◌, ◌^◌, ◌⊎◌, ◌&&◌, not, Bool, true, false, List, [], ◌∷◌, length, min, take, drop, slice_index, int_le, int_lt, nat_lt, Option, Some, None, Result, Ok, Err, IfOk, IfSome, if◌then◌else◌}
use Rattle.std.specs.Io.KnownBytes.{Appends}
use Rattle.speedate.specs.Ascii.{line_feed}
use Rattle.speedate.specs.Lines.{IsLineEnd, complete_lines, lines}
use Rattle.speedate_stream.specs.Machine.{head, state_after}
use Rattle.speedate_stream.specs.declared.run.RunError.{RunError}
use Rattle.speedate_scan.specs.Reading.{part, read}
use Rattle.speedate_scan.specs.Scan.{first_found, has_as, has_offsets, is_stopped, line_of, passed}
use Rattle.speedate_scan.specs.Scan.{stop_at_bad}
use Rattle.speedate_scan.specs.Entries.{Entry, entries, marked}
use Rattle.speedate_commands.specs.Base.{Offsets, Reader, Reading, Report, Scan}
use Rattle.speedate_commands.specs.Between.{Between, between_machine, file_text}

-- A text that is read at any byte.

-- a read of a known text gave its bytes from a place on, and none only at its end
abbrev pub ReadsAt : {E : Type 0} → Option (List ℕ) → ℕ → Result ℕ E → List ℕ → Type 0
ReadsAt known at result buffer = IfSome known (λ text. IfOk result (λ count.
    (take count buffer ≡ take count (drop at text))
    × (count ≡ 0 → 0 < length buffer → length text ≤ at)))

-- the known bytes from one place up to another
abbrev pub known_part : Option (List ℕ) → ℕ → ℕ → Option (List ℕ)
known_part None from to = None
known_part (Some text) from to = Some (part text from to)

-- Lines that have a value.

-- the nanosecond of what is read of a line, if it is a value that has an offset, or none, as it is
-- to have it
abbrev pub value_in : Bool → Reading → Option ℤ
value_in has_offset (Reading.Value found) =
    if has_as has_offset found then Some found.instant else None
value_in has_offset (Reading.Bad bad) = None
value_in has_offset (Reading.Undated place) = None

-- the nanosecond of a line, if it has such a value
abbrev pub line_value : Reader → Bool → List ℕ → Option ℤ
line_value reader has_offset line = value_in has_offset (read reader (head line))

-- at a place of a text, after a line feed, a line begins that has this value
pub record HasValueAt (reader : Reader) (has_offset : Bool) (text : List ℕ) (at : ℕ)
    (instant : ℤ) : Type 0 where
  pub some : 1 ≤ at
  pub begins : slice_index text (at - 1) ≡ line_feed
  pub end : ℕ
  pub ends : IsLineEnd text at end
  pub value : line_value reader has_offset (part text at end) ≡ Some instant

-- at a place of a text a line begins whose value is before a bound
abbrev pub IsBefore : Reader → Bool → List ℕ → ℕ → ℤ → Type 0
IsBefore reader has_offset text at bound =
    (instant : ℤ) × (HasValueAt reader has_offset text at instant × (int_lt instant bound ≡ true))

-- at a place of a text a line begins whose value is not before a bound
abbrev pub IsFrom : Reader → Bool → List ℕ → ℕ → ℤ → Type 0
IsFrom reader has_offset text at bound =
    (instant : ℤ) × (HasValueAt reader has_offset text at instant × (int_le bound instant ≡ true))

-- the first line of a text is ended by the line feed before a place
abbrev pub EndsFirstLine : List ℕ → ℕ → Type 0
EndsFirstLine text at = (1 ≤ at) × IsLineEnd text 0 (at - 1)

-- Files in order.

-- no entry has a value that is less
abbrev pub NoneIsBefore : ℤ → List Entry → Type 0
NoneIsBefore instant [] = Unit {0}
NoneIsBefore instant (entry ∷ entries) =
    (int_le instant entry.instant ≡ true) × NoneIsBefore instant entries

-- the values of entries never fall
abbrev pub AreInOrder : List Entry → Type 0
AreInOrder [] = Unit {0}
AreInOrder (entry ∷ entries) = NoneIsBefore entry.instant entries × AreInOrder entries

-- what is known after lines
abbrev pub scan_after : Scan → List (List ℕ) → Scan
scan_after scan [] = scan
scan_after scan (line ∷ lines) = scan_after (passed scan (line_of scan (head line))) lines

-- the values of the lines of a file never fall, and no line ends the run
pub record IsInOrder (between : Between) (lines : List (List ℕ)) : Type 0 where
  pub ordered : AreInOrder (entries (marked between.prefix between.scan lines))
  pub goes_on : is_stopped (scan_after between.scan lines).stop ≡ false

-- values are to have an offset, or to have none, as the bounds have it
abbrev pub is_settled : Offsets → Bool
is_settled Offsets.Any = false
is_settled Offsets.AsFirst = false
is_settled (Offsets.Only has_offset) = true
is_settled (Offsets.AsBounds has_offset) = true

-- A file is searched unless the entry before it goes on in it, all values fit, or a bad value would
-- end the run.
abbrev pub is_searched : Between → Bool
is_searched between =
    not between.is_kept && (is_settled between.scan.offsets
    && not (is_stopped (stop_at_bad between.scan.bad_lines)))

-- Which part of a file is read.

-- the part that is read starts where it may, or with a line whose value is before the first bound
abbrev pub StartsAt : Between → Option (List ℕ) → ℕ → ℕ → Type 0
StartsAt between known begin start = (start ≡ begin) ⊎ IfSome known (λ text.
    (from : ℤ) × ((between.bounds.from ≡ Some from) × IsBefore between.scan.reader
    (has_offsets between.scan.offsets) text start from))

-- the part that is read ends before a line whose value is not before the second bound, or with the
-- file
abbrev pub EndsAt : Between → Option (List ℕ) → ℕ → ℕ → Type 0
EndsAt between known start end = (end ≡ 2 ^ 64 - 1) ⊎ ((start ≤ end) × IfSome known (λ text.
    (to : ℤ) × ((between.bounds.to ≡ Some to) × IsFrom between.scan.reader
    (has_offsets between.scan.offsets) text end to)))

-- how many lines come before the part that is read: they are counted if numbers are printed
abbrev pub IsNumber : Between → List ℕ → ℕ → ℕ → ℕ → Type 0
IsNumber between text begin start number =
    (number ≡ min (between.scan.number + length (complete_lines (part text begin start)))
    (2 ^ 64 - 1))
    ⊎ ((number ≡ between.scan.number) × (between.prefix.has_number ≡ false))

-- a report, once lines that were not read before its line are counted
abbrev pub later : ℕ → Report → Report
later skipped report = record report { number = min (report.number + skipped) (2 ^ 64 - 1) }

-- the first reports, once lines that were not read are counted before those from one on
abbrev pub moved : ℕ → ℕ → ℕ → List Report → List Report
moved zero first skipped reports = reports
moved (suc count) first skipped [] = []
moved (suc count) zero skipped (report ∷ reports) =
    later skipped report ∷ moved count zero skipped reports
moved (suc count) (suc first) skipped (report ∷ reports) =
    report ∷ moved count first skipped reports

-- what is known of lines with these reports, once those before them that were not read are counted
abbrev pub renumbered : Scan → ℕ → List Report → Scan
renumbered scan skipped reports = record scan {
  number = min (scan.number + skipped) (2 ^ 64 - 1);
  reports = reports;
}

-- what is known after an entry that is not printed
abbrev pub entry_passed : Between → Between
entry_passed between = record between {
  scan = record between.scan {
    offsets = Offsets.Only (has_offsets between.scan.offsets);
    first = first_found between.scan.first;
  };
  is_kept = false;
}

-- the lines of a part of a file were printed, unless the run has ended; what is known after them
abbrev pub EndsPart : Between → Between → Option (List ℕ) → Option (List ℕ) → List ℕ → Type 0
EndsPart before after old new text = (is_stopped after.scan.stop ≡ true)
    ⊎ ((after ≡ state_after between_machine before (lines text))
    × Appends old new (file_text before (lines text)))

-- what is known after a part of a file, once the lines before it are counted for the reports of its
-- bad values; if numbers are printed, they have been counted
abbrev pub recounted : Between → Between → ℕ → Between
recounted before found skipped =
    if nat_lt before.scan.bad found.scan.bad && not found.prefix.has_number
    then record found {
      scan = renumbered found.scan skipped
          (moved 10 before.scan.bad skipped found.scan.reports);
    }
    else found

-- no bad value is noted of a part of a file, or those that are have the numbers of their lines
abbrev pub HasNumbers : Between → Between → List ℕ → ℕ → ℕ → Type 0
HasNumbers before after text begin start = (after.scan.bad ≡ before.scan.bad)
    ⊎ ((found : Between) × (after ≡ recounted before found
    (min (length (complete_lines (part text begin start))) (2 ^ 64 - 1))))

-- what is known once the lines after a part are passed over, which ends before the last place
abbrev pub bounded : ℕ → Between → Between
bounded end found =
    if nat_lt end (2 ^ 64 - 1) && not (is_stopped found.scan.stop) then entry_passed found
    else found

-- the lines of a part of a file were printed, and those before it are counted for its reports
pub record EndsFound (before after : Between) (old new : Option (List ℕ)) (text : List ℕ)
    (begin start end : ℕ) : Type 0 where
  pub found : Between
  pub ended : EndsPart before found old new (part text start end)
  pub reports : after ≡ recounted before found
      (min (length (complete_lines (part text begin start))) (2 ^ 64 - 1))

-- the same, and the lines after it are passed over
abbrev pub EndsBounded : Between → Between → Option (List ℕ) → Option (List ℕ) → List ℕ
    → ℕ → ℕ → ℕ → Type 0
EndsBounded before after old new text begin start end =
    (found : Between) × EndsFound before found old new text begin start end
    × (after ≡ bounded end found)

-- If the values of a file are in order, and no line ends the run, then what is printed is what
-- `between` prints of all its lines.
abbrev pub PrintsFile : Between → Between → Option (List ℕ) → Option (List ℕ) → List ℕ → Type 0
PrintsFile before after old new text = length text < 2 ^ 64 → is_stopped after.scan.stop ≡ false
    → IsInOrder before (lines text) → Appends old new (file_text before (lines text))

-- the same of lines of a file that may be searched
abbrev pub PrintsRest : Between → Between → Option (List ℕ) → Option (List ℕ) → List ℕ
    → List (List ℕ) → Type 0
PrintsRest before after old new text rest = is_searched before ≡ true → length text < 2 ^ 64
    → is_stopped after.scan.stop ≡ false → IsInOrder before rest
    → Appends old new (file_text before rest)

-- which of the two has failed, by this answer: a read, which may have failed before, or the output
abbrev pub FailsBy : Result (Unit {0}) RunError → Bool → Bool → Bool → Type 0
FailsBy (Ok ended) before read output = (read ≡ before) × (output ≡ false)
FailsBy (Err RunError.Read) before read output = (read ≡ true) × (output ≡ false)
FailsBy (Err RunError.Write) before read output = (read ≡ before) × (output ≡ true)
