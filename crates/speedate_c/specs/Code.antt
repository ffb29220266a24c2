-- The codes that calls answer: 0, the numbers of the faults and of three further answers, and those
-- of what a caller got wrong.
use Rattle.std.specs.Prelude.{ℕ, ◌-◌, ℤ, pos, negsuc, unsigned_abs, int_le, List, [], ◌∷◌, map, codes, slice_get, Option, Some, None, Result, Ok, Err, if◌then◌else◌}
use Rattle.std.specs.Option.{option_map, option_or}
use Rattle.std.specs.Ordering.{int_eq}
use Rattle.std.specs.declared.cmp.Ordering.{Ordering, Ordering as ordering}
use Rattle.speedate.specs.Base.{CallKind, ParseError}
use Rattle.speedate.specs.declared.LineError.{LineError}
use Rattle.speedate.specs.Column.{error_number}
use Rattle.speedate.specs.Expected.{expected_text}
use Rattle.speedate.specs.Fault.{FaultRow, fault_rows, fault_number, fault_name}
use Rattle.speedate.specs.Fault.{fault_documentation}

-- what was asked for is written
abbrev pub success : ℤ
success = pos 0

-- the number of a line does not fit 64 bits
abbrev pub number_too_large : ℤ
number_too_large = pos 97

-- a text is no whole number, or one that does not fit 64 bits
abbrev pub invalid_integer : ℤ
invalid_integer = pos 98

-- the date that a call would give is outside the years 0000 to 9999
abbrev pub no_such_date : ℤ
no_such_date = pos 99

-- a value or a flag of the caller's is out of range
abbrev pub value_out_of_range : ℤ
value_out_of_range = pos 101

-- a number of the caller's configuration has no meaning
abbrev pub config_out_of_range : ℤ
config_out_of_range = pos 102

-- a text does not fit into the caller's buffer
abbrev pub buffer_too_small : ℤ
buffer_too_small = pos 103

-- the numbers of the forms in which a text is read
abbrev pub text_form : ℤ
text_form = pos 0

abbrev pub or_timestamp_form : ℤ
or_timestamp_form = pos 1

abbrev pub strict_form : ℤ
strict_form = pos 2

abbrev pub loose_form : ℤ
loose_form = pos 3

abbrev pub front_form : ℤ
front_form = pos 4

abbrev pub loose_front_form : ℤ
loose_front_form = pos 5

-- the code of a fault: its number
abbrev pub fault_code : ParseError → ℤ
fault_code fault = pos (fault_number fault)

-- the code of an error of a line: its number
abbrev pub line_error_code : LineError → ℤ
line_error_code error = pos (error_number error)

-- the faults in the order of their codes
abbrev pub faults : List ParseError
faults = map (λ (row : FaultRow). row.fault) fault_rows

-- the fault of a code
abbrev pub fault_of : ℤ → Option ParseError
fault_of code = if int_le (pos 1) code then slice_get faults (unsigned_abs code - 1) else None

-- the name and the documentation text of a code that is no fault
abbrev pub refusal_row : ℤ → Option (List ℕ × List ℕ)
refusal_row code =
    if int_eq code success
    then Some (codes "ok", codes "success")
    else (if int_eq code number_too_large
    then Some (codes "number_too_large", codes "the number of a line does not fit 64 bits")
    else (if int_eq code invalid_integer
    then Some (codes "invalid_integer", codes "no whole number, or one that does not fit 64 bits")
    else (if int_eq code no_such_date
    then Some (codes "no_such_date", codes "the years 0000 to 9999 have no such date")
    else (if int_eq code value_out_of_range
    then Some (codes "value_out_of_range", codes "a value or a flag is out of range")
    else (if int_eq code config_out_of_range
    then Some (
      codes "config_out_of_range",
      codes "a number of the configuration is out of range",
    )
    else (if int_eq code buffer_too_small
    then Some (codes "buffer_too_small", codes "the buffer is too small for the text")
    else None))))))

-- the name and the documentation text of a code
abbrev pub code_row : ℤ → Option (List ℕ × List ℕ)
code_row code =
    option_or (option_map (λ fault. (fault_name fault, fault_documentation fault)) (fault_of code))
    (refusal_row code)

-- the kinds of calls in the order of their numbers
abbrev pub call_kinds : List CallKind
call_kinds =
    CallKind.Values
    ∷ CallKind.Date
    ∷ CallKind.DateOrTimestamp
    ∷ CallKind.Time
    ∷ CallKind.TimeStrict
    ∷ CallKind.DateTime
    ∷ CallKind.DateTimeOrTimestamp
    ∷ CallKind.DateTimeStrict
    ∷ CallKind.Duration
    ∷ []

-- the kind of calls that has a number
abbrev pub call_kind_of : ℤ → Option CallKind
call_kind_of number =
    if int_le (pos 0) number then slice_get call_kinds (unsigned_abs number) else None

-- the number of a kind of calls
abbrev pub kind_number : CallKind → ℤ
kind_number CallKind.Values = pos 0
kind_number CallKind.Date = pos 1
kind_number CallKind.DateOrTimestamp = pos 2
kind_number CallKind.Time = pos 3
kind_number CallKind.TimeStrict = pos 4
kind_number CallKind.DateTime = pos 5
kind_number CallKind.DateTimeOrTimestamp = pos 6
kind_number CallKind.DateTimeStrict = pos 7
kind_number CallKind.Duration = pos 8

-- what was expected, of a code that is no fault
abbrev pub refusal_expected : ℤ → Option (List ℕ)
refusal_expected code =
    if int_eq code number_too_large
    then Some (codes "a duration of less than 2^63 microseconds")
    else (if int_eq code invalid_integer
    then Some (codes "a whole number that fits 64 bits")
    else (if int_eq code no_such_date
    then Some (codes "a date in the years 0000 to 9999")
    else (if int_eq code value_out_of_range
    then Some (codes "values within their ranges, and flags of 0 or 1")
    else (if int_eq code config_out_of_range
    then Some (codes "a form, flags and a configuration that the call has")
    else (if int_eq code buffer_too_small
    then Some (codes "a buffer with room for the text and a zero byte")
    else None)))))

-- what a call of a kind expected where it gave a code
abbrev pub code_expected : ℤ → CallKind → Option (List ℕ)
code_expected code kind =
    option_or (option_map (λ fault. expected_text fault kind) (fault_of code))
    (refusal_expected code)

-- the code of an answer
abbrev pub answer_code : {A : Type 0} → Result A ParseError → ℤ
answer_code (Ok value) = success
answer_code (Err fault) = fault_code fault

-- the number of an order
abbrev pub order_number : Ordering → ℤ
order_number ordering.Less = negsuc 0
order_number ordering.Equal = pos 0
order_number ordering.Greater = pos 1
