-- Where the fields of a line are.
use Rattle.std.specs.Prelude.{ℕ, ◌+◌, ◌-◌, ◌≤◌, ◌==◌, zero, suc, Bool, List, [], ◌∷◌, length, drop, slice_index, nat_eq, nat_lt, Option, Some, None, if◌then◌else◌}
use Rattle.std.specs.List.{position_or_len, starts_with}
pub use Rattle.speedate_scan.specs.declared.field.NthField.{NthField}
pub use Rattle.speedate_scan.specs.declared.field.Field.{Field}

-- `"`
abbrev pub quote : ℕ
quote = 34

-- how many bytes of a text stand before the quote that closes a field: one that is doubled does not
unfoldable pub before_quote : List ℕ → ℕ
before_quote [] = 0
before_quote (byte ∷ []) = if byte == quote then 0 else 1
before_quote (byte ∷ next ∷ bytes) =
    if byte == quote then (if next == quote then 2 + before_quote bytes else 0)
    else 1 + before_quote (next ∷ bytes)

-- the quote that closes a field, from a byte of it on, or the text's end
abbrev pub closing_quote : List ℕ → ℕ → ℕ
closing_quote text place = place + before_quote (drop place text)

-- the first separator from a byte of a text on, or the text's end
abbrev pub next_separator : ℕ → List ℕ → ℕ → ℕ
next_separator separator text place =
    place + position_or_len (λ byte. byte == separator) (drop place text)

-- a field that stands from one byte up to another, and ends at the first separator from there on
abbrev pub ended : ℕ → List ℕ → ℕ → ℕ → Field
ended separator text from to =
    record { from = from; to = to; end = next_separator separator text to }

-- the field that begins at a byte of a text: up to the next separator, or between quotes
unfoldable pub field_at : ℕ → List ℕ → ℕ → Field
field_at separator text start =
    if slice_index text start == quote
    then ended separator text (start + 1) (closing_quote text (start + 1))
    else ended separator text start (next_separator separator text start)

-- the field after so many others, of which the first begins at a byte of a text: each begins after
-- the separator that ends the one before
unfoldable pub field_after : ℕ → List ℕ → ℕ → ℕ → Option Field
field_after separator text start zero = Some (field_at separator text start)
field_after separator text start (suc others) =
    let end = (field_at separator text start).end in
    if nat_lt end (length text) then field_after separator text (end + 1) others else None

-- the bytes of U+FEFF, a byte order mark
abbrev pub byte_order_mark : List ℕ
byte_order_mark = 239 ∷ 187 ∷ 191 ∷ []

-- how many bytes of a text its byte order mark takes, which belongs to no value
abbrev pub mark_length : List ℕ → ℕ
mark_length text = if starts_with nat_eq text byte_order_mark then 3 else 0

-- field N of a text; the first one is field 1
abbrev pub nth_field : NthField → List ℕ → Option Field
nth_field which text = field_after which.separator text (mark_length text) (which.number - 1)

-- a field lies within a text
pub record IsFieldWithin (field : Field) (text : List ℕ) : Type 0 where
  pub ordered : field.from ≤ field.to
  pub ends : field.to ≤ field.end
  pub within : field.end ≤ length text

-- bytes stand after the quote that closes a field
abbrev pub goes_on : Field → Bool
goes_on field = nat_lt (field.to + 1) field.end
