-- The digits of a second that the text of a value has: the library reads six, and a line may have
-- nine.
use Rattle.std.specs.Prelude.{ℕ, ◌+◌, ◌*◌, List, slice_index, nat_le, if◌then◌else◌}
use Rattle.speedate_base.specs.Digits.{is_decimal_mark, one_digit_value, run_length}
use Rattle.speedate_scan.specs.declared.form.Form.{Form}

-- how many digits the text of a date-time has after its second
unfoldable pub fraction_size : List ℕ → ℕ
fraction_size text = if is_decimal_mark (slice_index text 19) then run_length text 20 else 0

-- a digit of a fraction of so many digits, by its number: 0 if there is none
abbrev pub fraction_digit : List ℕ → ℕ → ℕ → ℕ
fraction_digit text size number =
    if nat_le number size then one_digit_value (slice_index text (19 + number)) else 0

-- the nanoseconds that the text of a date-time has past its microsecond: the seventh to the ninth
-- digit, as a number
abbrev pub past_microsecond : List ℕ → ℕ
past_microsecond text =
    let size = fraction_size text in
    100 * fraction_digit text size 7 + 10 * fraction_digit text size 8 + fraction_digit text size 9

-- the nanoseconds of a value past its microsecond, by its text: dates have none, and the library
-- rounds Unix timestamps to microseconds
abbrev pub value_past_microsecond : Form → List ℕ → ℕ
value_past_microsecond Form.DateTime text = past_microsecond text
value_past_microsecond Form.Strict text = past_microsecond text
value_past_microsecond Form.Date text = 0
value_past_microsecond (Form.Timestamp unit) text = 0
