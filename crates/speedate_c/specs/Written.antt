-- What a call leaves: its code, and then what stands where it writes. A call that refuses leaves
-- what stood there.
use Rattle.std.specs.Prelude.{ℕ, ◌+◌, ℤ, pos, List, ◌∷◌, ◌++◌, length, drop, nat_lt, Option, Some, None, Result, Ok, Err, if◌then◌else◌}
use Rattle.speedate.specs.Base.{CallKind, ParseError}
use Rattle.speedate.specs.declared.LineError.{LineError}
use Rattle.speedate.specs.Part.{part_end}
use Rattle.speedate.specs.declared.Refused.{Refused}
use Rattle.speedate_c.specs.Code.{buffer_too_small, fault_code, kind_number}
use Rattle.speedate_c.specs.Code.{line_error_code, no_such_date, success}
use Rattle.speedate_c.specs.declared.part.SpeedatePart.{SpeedatePart}

-- what follows from a value that is in its ranges; what is left where it is not
abbrev pub with_value : {A B : Type 0} → Result A ParseError → B → (A → B) → B
with_value (Ok value) refused next = next value
with_value (Err fault) refused next = refused

-- what follows from the meaning of a number; what is left where it has none
abbrev pub with_option : {A B : Type 0} → Option A → B → (A → B) → B
with_option (Some value) refused next = next value
with_option None refused next = refused

-- written of a value that there always is
abbrev pub written_value : {B : Type 0} → B → ℤ × B
written_value value = (success, value)

-- written of an answer: its value as C sees it
abbrev pub written_answer : {A B : Type 0} → (A → B) → B → Result A ParseError → ℤ × B
written_answer shown before (Ok value) = (success, shown value)
written_answer shown before (Err fault) = (fault_code fault, before)

-- written of a number, or of the error of a line that has none
abbrev pub written_number : ℤ → Result ℤ LineError → ℤ × ℤ
written_number before (Ok number) = (success, number)
written_number before (Err error) = (line_error_code error, before)

-- the part where no text is refused
abbrev pub no_part : SpeedatePart
no_part = record { start = 0; end = 0; kind = pos 0 }

-- the part of a text that a fault at a place is about, from a call of a kind
abbrev pub part_at : ParseError → CallKind → List ℕ → ℕ → SpeedatePart
part_at fault kind text place =
    record { start = place; end = part_end fault text place; kind = kind_number kind }

-- how a form reads a text: its answer with the size of the value, and the kind of calls that read
-- as it does
pub record Reading (A : Type 0) : Type 0 where
  pub answer : Result (A × ℕ) Refused
  pub kind : CallKind

abbrev pub reading : {A : Type 0} → CallKind → Result (A × ℕ) Refused → Reading A
reading kind answer = record { answer = answer; kind = kind }

-- written of what was read: its value as C sees it
abbrev pub written_front : {A B : Type 0} → (A → B) → B → Result (A × ℕ) Refused → ℤ × B
written_front shown before (Ok front) = (success, shown front.0)
written_front shown before (Err refused) = (fault_code refused.fault, before)

-- the part beside it: where the value ends, or what the fault is about, from its place on
abbrev pub part_beside : {A : Type 0} → CallKind → List ℕ → Result (A × ℕ) Refused → SpeedatePart
part_beside kind text (Ok front) = record { start = 0; end = front.1; kind = pos 0 }
part_beside kind text (Err refused) = part_at refused.fault kind text refused.place

abbrev pub written_part : {A : Type 0} → List ℕ → Reading A → SpeedatePart
written_part text reading = part_beside reading.kind text reading.answer

-- written of a date, where there is one
abbrev pub written_optional_date : {A B : Type 0} → (A → B) → B → Option A → ℤ × B
written_optional_date shown before (Some date) = (success, shown date)
written_optional_date shown before None = (no_such_date, before)

-- written of a text: it stands in the buffer with a zero byte after it, where there is room for
-- both, and its length beside it
abbrev pub written_text : List ℕ → List ℕ → ℕ → ℤ × List ℕ × ℕ
written_text text buffer size =
    if nat_lt (length text) (length buffer)
    then (success, text ++ 0 ∷ drop (length text + 1) buffer, length text)
    else (buffer_too_small, buffer, size)
