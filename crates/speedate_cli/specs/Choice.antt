-- What the text of an option chooses.
use Rattle.std.specs.Prelude.{ℕ, ℤ, pos, ◌*ℤ◌, Bool, true, false, List, codes, length, Option, Some, None, option_map, Result, Ok, Err, if◌then◌else◌}
use Rattle.speedate.specs.Base.{Behavior, TimestampUnit}
use Rattle.speedate.specs.Duration.{signed_amount}
use Rattle.speedate.specs.DurationNumbers.{DurationNumbers}
use Rattle.speedate_scan.specs.Amount.{exact_between}
use Rattle.speedate_scan.specs.declared.form.Form.{Form}
use Rattle.speedate_scan.specs.declared.reading.Bad.{Bad}
use Rattle.speedate_scan.specs.declared.scan.BadLines.{BadLines}
use Rattle.speedate_scan.specs.declared.scan.UndatedLines.{UndatedLines}
use Rattle.speedate_cli.specs.Word.{is_word}
pub use Rattle.speedate_cli.specs.declared.choice.BadGap.{BadGap}

-- the unit of Unix timestamps of a kind
abbrev pub unit_of : List ℕ → Option TimestampUnit
unit_of text =
    if is_word text (codes "seconds") then Some TimestampUnit.Second
    else if is_word text (codes "milliseconds") then Some TimestampUnit.Millisecond
    else if is_word text (codes "microseconds") then Some TimestampUnit.Microsecond
    else None

-- the unit that a unit is called by: an inferred one by seconds
abbrev pub named_unit : TimestampUnit → Option TimestampUnit
named_unit TimestampUnit.Second = Some TimestampUnit.Second
named_unit TimestampUnit.Millisecond = Some TimestampUnit.Millisecond
named_unit TimestampUnit.Microsecond = Some TimestampUnit.Microsecond
named_unit TimestampUnit.Infer = Some TimestampUnit.Second

-- what values of a kind are
abbrev pub kind_of : List ℕ → Option Form
kind_of text =
    if is_word text (codes "datetime") then Some Form.DateTime
    else if is_word text (codes "date") then Some Form.Date
    else option_map Form.Timestamp (unit_of text)

-- what values of a kind are, by whether a date-time has to be one of RFC 3339 alone
abbrev pub form_of : Form → Bool → Form
form_of Form.DateTime is_strict = if is_strict then Form.Strict else Form.DateTime
form_of Form.Strict is_strict = Form.Strict
form_of Form.Date is_strict = Form.Date
form_of (Form.Timestamp unit) is_strict = Form.Timestamp unit

-- what is done with digits past the microsecond: six digits of a second are the most
abbrev pub digits_of : List ℕ → Option Behavior
digits_of text = if is_word text (codes "6") then Some Behavior.Error else None

-- what is done with lines that have no value
abbrev pub undated_of : List ℕ → Option UndatedLines
undated_of text =
    if is_word text (codes "join") then Some UndatedLines.Join
    else if is_word text (codes "drop") then Some UndatedLines.Drop
    else if is_word text (codes "bad") then Some UndatedLines.Bad
    else None

-- what is done with lines whose value is bad
abbrev pub bad_of : List ℕ → Option BadLines
bad_of text =
    if is_word text (codes "keep") then Some BadLines.Keep
    else if is_word text (codes "stop") then Some BadLines.Stop
    else None

-- a total is printed in hours
abbrev pub hours_of : List ℕ → Option Bool
hours_of text =
    if is_word text (codes "text") then Some false
    else if is_word text (codes "hours") then Some true
    else None

-- with how many digits after their second values are written
abbrev pub fraction_of : List ℕ → Option ℕ
fraction_of text =
    if is_word text (codes "0") then Some 0
    else if is_word text (codes "3") then Some 3
    else if is_word text (codes "6") then Some 6
    else if is_word text (codes "9") then Some 9
    else None

-- the nanoseconds of a duration without a minus
abbrev pub gap_by : Result DurationNumbers Bad → Result ℤ BadGap
gap_by (Ok numbers) =
    if numbers.positive then Ok (pos 1000 *ℤ signed_amount numbers) else Err BadGap.Negative
gap_by (Err bad) = Err (BadGap.Bad bad)

-- the nanoseconds of a gap
abbrev pub gap_of : List ℕ → Result ℤ BadGap
gap_of text = gap_by (exact_between text 0 (length text))
