-- What is printed of names, numbers and bad values.
use Rattle.std.specs.Prelude.{ℕ, ◌+◌, List, [], ◌∷◌, ◌++◌, take, drop, Bool, codes, decimal, if◌then◌else◌}
use Rattle.speedate.specs.Ascii.{colon, line_feed}
use Rattle.speedate.specs.Base.{CallKind, ParseError}
use Rattle.speedate.specs.Expected.{expected_text}
use Rattle.speedate_stream.specs.Machine.{longest_line}
use Rattle.speedate_stream.specs.Watch.{one_more}
use Rattle.speedate_scan.specs.Reading.{Bad, Form, Why}
pub use Rattle.speedate_scan.specs.declared.print.Prefix.{Prefix}

-- the nine digits of a number below 1,000,000,000
abbrev pub nine_digits : ℕ → List ℕ
nine_digits number = drop 1 (decimal (1000000000 + number))

-- what is shown of the name of a file
abbrev pub shown_name : List ℕ → List ℕ
shown_name name = take longest_line name

-- a text with a colon, if it is asked for
abbrev pub with_colon : Bool → List ℕ → List ℕ
with_colon is_asked text = if is_asked then text ++ colon ∷ [] else []

-- what is printed before a line: the name of its file, its number, both or nothing
unfoldable pub prefix_text : Prefix → List ℕ → ℕ → List ℕ
prefix_text prefix name number =
    with_colon prefix.has_name (shown_name name) ++ with_colon prefix.has_number (decimal number)

-- the kind of call that reads values of a form
abbrev pub call_kind : Form → CallKind
call_kind Form.DateTime = CallKind.DateTime
call_kind Form.Strict = CallKind.DateTimeStrict
call_kind Form.Date = CallKind.Date
call_kind (Form.Timestamp unit) = CallKind.DateTime

-- what was expected of a line without a value
abbrev pub expected_of : Form → CallKind → List ℕ
expected_of Form.DateTime kind = expected_text ParseError.TooShort kind
expected_of Form.Strict kind = expected_text ParseError.TooShort kind
expected_of Form.Date kind = expected_text ParseError.TooShort kind
expected_of (Form.Timestamp unit) kind = codes "a Unix timestamp, as --kind says"

-- what was expected, as a phrase
unfoldable pub expected_by : Why → CallKind → List ℕ
expected_by (Why.Parse fault) kind = expected_text fault kind
expected_by Why.Within kind = codes "a value within the first 4,080 bytes"
expected_by Why.End kind = codes "the end of the value"
expected_by (Why.Undated form) kind = expected_of form kind
expected_by Why.Clock kind = codes "a time, as in 2026-11-22T06:10, or --kind date"
expected_by Why.HalfDay kind = codes "a clock of 24 hours, without AM or PM"
expected_by Why.NoOffset kind = codes "no offset"
expected_by Why.NoYearsOrMonths kind = codes "a duration without years and months"
expected_by Why.NoClock kind = codes "no clock after days with a minus"
expected_by Why.SixDigits kind = codes "at most six digits of a fraction"

-- where a line stands: the name of the file and the number of the line
unfoldable pub line_place : List ℕ → ℕ → List ℕ
line_place name number = shown_name name ++ colon ∷ [] ++ decimal number

-- the column of a bad value, which counts bytes from 1, and what was expected there
unfoldable pub bad_text : Bad → CallKind → List ℕ
bad_text bad kind =
    decimal (one_more bad.place) ++ codes ": expected " ++ expected_by bad.why kind

-- the report of a bad value: the file, the line, the column, and what was expected there
unfoldable pub report_text : List ℕ → ℕ → Bad → CallKind → List ℕ
report_text name number bad kind =
    line_place name number ++ colon ∷ [] ++ bad_text bad kind ++ line_feed ∷ []
