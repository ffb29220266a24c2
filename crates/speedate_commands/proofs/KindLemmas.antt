-- What a line can be by what is known before it.
use Rattle.std.proofs.Common.{◌≡◌, ◌==◌, Bool, true, false, ℕ, List, refl, ap}
use Rattle.std.specs.Prelude.{◌&&◌, if◌then◌else◌}
use Rattle.speedate_scan.specs.Reading.{read}
use Rattle.speedate_scan.specs.Scan.{fits, is_stopped, judged, line_of, undated_line, unfit_line}
use Rattle.speedate_commands.specs.Base.{Form, Found, LineKind, Offsets, Reading, Scan}
use Rattle.speedate_commands.specs.Base.{UndatedLines}
use Rattle.speedate_commands.specs.Between.{awaits_header}
use Rattle.speedate_commands.specs.Check.{takes_any}

-- what is known before a line of a kind
abbrev pub MayBe : Scan → LineKind → Type 0
MayBe scan LineKind.Late = is_stopped scan.stop ≡ true
MayBe scan LineKind.Header = awaits_header scan ≡ true
MayBe scan (LineKind.Value found) = fits scan.offsets found ≡ true
MayBe scan LineKind.Unfit = takes_any scan.offsets ≡ false
MayBe scan what = Unit {0}

-- a line whose value does not fit
unfit_line_may : (scan : Scan) (offsets : Offsets) (line : List ℕ) (found : Found)
    → scan.offsets ≡ offsets → MayBe scan (unfit_line offsets line found)
unfit_line_may scan (Offsets.AsBounds other) line found is = ap takes_any is
unfit_line_may scan offsets line found is = tt

-- a line with a value
value_may : (scan : Scan) (line : List ℕ) (found : Found) (fit : Bool)
    → fits scan.offsets found ≡ fit
    → MayBe scan (if fit then LineKind.Value found else unfit_line scan.offsets line found)
value_may scan line found true is = is
value_may scan line found false is = unfit_line_may scan scan.offsets line found refl

-- a line without a value
undated_may : (scan : Scan) (lines : UndatedLines) (form : Form) (place : ℕ)
    → MayBe scan (undated_line lines form place)
undated_may scan UndatedLines.Bad form place = tt
undated_may scan lines form place = tt

-- a line, by whether the run has ended, whether it is a header, and what is read of it
line_may : (scan : Scan) (line : List ℕ) (stopped header : Bool) (reading : Reading)
    → is_stopped scan.stop ≡ stopped → (scan.has_header && (scan.number == 0)) ≡ header
    → MayBe scan
    (if stopped then LineKind.Late
    else if header then LineKind.Header else judged scan line reading)
line_may scan line true header reading stops begins = stops
line_may scan line false true reading stops begins = rw (stops, begins) refl
line_may scan line false false (Reading.Value found) stops begins =
    value_may scan line found (fits scan.offsets found) refl
line_may scan line false false (Reading.Bad bad) stops begins = tt
line_may scan line false false (Reading.Undated place) stops begins =
    undated_may scan scan.undated_lines scan.reader.form place

-- a line of a file
pub line_of_may : (scan : Scan) (line : List ℕ) → MayBe scan (line_of scan line)
unfolding line_of
line_of_may scan line =
    line_may scan line (is_stopped scan.stop) (scan.has_header && (scan.number == 0))
    (read scan.reader line) refl refl
