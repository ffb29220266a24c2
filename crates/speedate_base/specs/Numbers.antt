-- Whole numbers and decimals, as texts and as what is read of them. This grammar is the library's
-- own.
use Rattle.std.specs.Prelude.{◌≡◌, ◌⊎◌, MatchBool, codes, ℕ, ◌+◌, ◌*◌, ◌/◌, ◌%◌, ◌^◌, Bool, ◌&&◌, ◌||◌, List, [], ◌∷◌, ◌++◌, length, slice_index, nat_lt, nat_le, ◌==◌, if◌then◌else◌, Option, Some, None, ℤ, pos, neg_ℤ, int_lt, unsigned_abs, true, false}
use Rattle.std.specs.Char.{is_ascii_digit}
use Rattle.std.specs.List.{list_all}
use Rattle.speedate_base.specs.declared.numbers.int_float.Decimal.{Decimal}
pub use Rattle.speedate_base.specs.declared.numbers.int_float.IntFloat.{IntFloat}
use Rattle.speedate_base.specs.Ascii.{plus_sign, hyphen, full_stop}
use Rattle.speedate_base.specs.Digits.{run_length, run_digits, run_value, digits_value}

-- a text begins with `-`
abbrev pub has_minus : List ℕ → Bool
has_minus text = slice_index text 0 == hyphen

-- how many bytes the sign of a text has: none, or one for `+` or `-`
abbrev pub sign_size : List ℕ → ℕ
sign_size text = if (slice_index text 0 == plus_sign) || has_minus text then 1 else 0

-- a size with its sign
abbrev pub with_sign : Bool → ℕ → ℤ
with_sign negative size = if negative then neg_ℤ (pos size) else pos size

-- the size of a whole number fits 64 bits with a sign
abbrev pub fits_i64 : Bool → ℕ → Bool
fits_i64 negative size = if negative then nat_le size (2 ^ 63) else nat_lt size (2 ^ 63)

-- a size with its sign, if it fits 64 bits with a sign
abbrev pub signed_answer : Bool → ℕ → Option ℤ
signed_answer negative size =
    if fits_i64 negative size then Some (with_sign negative size) else None

-- the whole number that a text is, if it is an optional sign and one or more digits, and fits 64
-- bits with a sign
abbrev pub whole_number : List ℕ → Option ℤ
whole_number text =
    let start = sign_size text in
    let digits = run_length text start in
    let size = run_value text start in
    if nat_lt 0 digits && (start + digits == length text) then signed_answer (has_minus text) size
    else None

-- a decimal by its parts
pub record DecimalParts : Type 0 where
  pub negative : Bool
  pub whole : List ℕ
  pub fraction : List ℕ

-- the decimal of a sign and digits on both sides of the point, of which there is one at least
abbrev pub decimal_of_digits : DecimalParts → Option DecimalParts
decimal_of_digits decimal =
    if list_all is_ascii_digit decimal.whole && list_all is_ascii_digit decimal.fraction
    && nat_lt 0 (length decimal.whole + length decimal.fraction)
    then Some decimal else None

-- the place of a decimal's point, after its sign and the digits before it
abbrev pub point_place : List ℕ → ℕ
point_place text = sign_size text + run_length text (sign_size text)

-- a text is an optional sign, digits, one point and digits, with a digit on one side at least
abbrev pub is_decimal : List ℕ → Bool
is_decimal text =
    let whole = run_length text (sign_size text) in
    let point = point_place text in
    let fraction = run_length text (point + 1) in
    (slice_index text point == full_stop) && (point + 1 + fraction == length text)
    && nat_lt 0 (whole + fraction)

-- the parts of a text that is a decimal
abbrev pub decimal_parts : List ℕ → DecimalParts
decimal_parts text = record {
  negative = has_minus text;
  whole = run_digits text (sign_size text);
  fraction = run_digits text (point_place text + 1);
}

-- a decimal is its digits, as one number, over ten to the number of those after the point
abbrev pub decimal_digits : DecimalParts → ℕ
decimal_digits decimal = digits_value (decimal.whole ++ decimal.fraction)

abbrev pub decimal_scale : DecimalParts → ℕ
decimal_scale decimal = 10 ^ length decimal.fraction

-- a decimal times ten to the power of the places, if that is whole and fits 64 bits with a sign
abbrev pub scaled_decimal : ℕ → DecimalParts → Option ℤ
scaled_decimal places decimal =
    let size = decimal_digits decimal * 10 ^ places in
    let scale = decimal_scale decimal in
    if size % scale == 0 then signed_answer decimal.negative (size / scale) else None

-- what a text is as a number: a whole one, a decimal, or none
pub data Number : Type 0 where
  Whole : ℤ → Number
  Fractional : DecimalParts → Number
  NoNumber : Number

-- the decimal that a text is, if it is one
abbrev pub decimal_answer : List ℕ → Number
decimal_answer text = if is_decimal text then Fractional (decimal_parts text) else NoNumber

-- a whole number, and otherwise what is asked next
abbrev pub whole_or : Option ℤ → Number → Number
whole_or (Some number) next = Whole number
whole_or None next = next

-- the number that a text is
abbrev pub number_answer : List ℕ → Number
number_answer text = whole_or (whole_number text) (decimal_answer text)

-- a number times ten to the power of the places, if that is whole and fits 64 bits with a sign
abbrev pub scaled_number : ℕ → Number → Option ℤ
scaled_number places (Whole n) = signed_answer (int_lt n (pos 0)) (unsigned_abs n * 10 ^ places)
scaled_number places (Fractional decimal) = scaled_decimal places decimal
scaled_number places NoNumber = None

-- a sign as it stands in a text: `-` if and only if it is negative, otherwise `+` or nothing
abbrev pub IsSign : Bool → List ℕ → Type 0
IsSign negative sign = MatchBool negative (sign ≡ codes "-") ((sign ≡ []) ⊎ (sign ≡ codes "+"))

-- a text is the sign, the digits, the point and the digits of a decimal
abbrev pub JoinsTo : DecimalParts → List ℕ → Type 0
JoinsTo decimal text =
    (sign : List ℕ) × IsSign decimal.negative sign
    × (text ≡ sign ++ decimal.whole ++ full_stop ∷ decimal.fraction)

-- the parts of a `Decimal`
abbrev pub decimal_value : Decimal → DecimalParts
decimal_value decimal =
    record {
      negative = decimal.negative;
      whole = decimal.whole.now;
      fraction = decimal.fraction.now;
    }

-- what was read, as a number
abbrev pub number_value : IntFloat → Number
number_value (IntFloat.Int n) = Whole n
number_value (IntFloat.Float decimal) = Fractional (decimal_value decimal)
number_value IntFloat.Err = NoNumber

-- a decimal that was read joins to its text
abbrev pub JoinsToFloat : IntFloat → List ℕ → Type 0
JoinsToFloat (IntFloat.Float decimal) text = JoinsTo (decimal_value decimal) text
JoinsToFloat other text = Unit {0}

-- what was read is no number
abbrev pub is_no_number : IntFloat → Bool
is_no_number IntFloat.Err = true
is_no_number other = false
