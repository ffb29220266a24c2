-- The program's answers to lines.
use Rattle.std.specs.Prelude.{ℕ, false, length, List, [], ◌∷◌, ◌++◌, if◌then◌else◌, take, drop, codes, nat_lt, bytes_eq, Option, Some, None, Result, Ok, Err}
use Rattle.std.specs.List.{flat_map}
use Rattle.speedate.specs.Base.{Behavior, IsoOrder, ParseError, TimestampUnit}
use Rattle.speedate.specs.Ascii.{line_feed, space}
use Rattle.speedate.specs.Date.{date_text, date_or_timestamp}
use Rattle.speedate.specs.DateTime.{date_time_text, date_time_or_timestamp}
use Rattle.speedate.specs.Duration.{duration_answer, duration_text}
use Rattle.speedate.specs.Fault.{fault_name}
use Rattle.speedate.specs.Refused.{without_place}
use Rattle.speedate.specs.Time.{time_answer, time_text}
use Rattle.speedate_stream.specs.Machine.{Machine, longest_line}
use Rattle.speedate_lines.specs.declared.answer.Answering.{Answering}
use Rattle.speedate_lines.specs.declared.answer.Kind.{Kind}

-- the answer to a text that was read: the canonical text of its value
abbrev pub ok_answer : List ℕ → List ℕ
ok_answer text = codes "ok " ++ text

-- the answer to a line that was refused: the name of the reason
abbrev pub err_answer : List ℕ → List ℕ
err_answer name = codes "err " ++ name

-- the reply to a text, by what its reader gives and how values are printed
abbrev pub reply : {A : Type 0} → (A → List ℕ) → Result A ParseError → List ℕ
reply text (Ok value) = ok_answer (text value)
reply text (Err fault) = err_answer (fault_name fault)

-- the word of a kind of line
abbrev pub word : Kind → List ℕ
word Kind.Date = codes "date"
word Kind.Time = codes "time"
word Kind.DateTime = codes "datetime"
word Kind.Duration = codes "duration"
word Kind.StrictDuration = codes "duration-strict"

-- the reply to a text of a kind
abbrev pub reply_to : Kind → List ℕ → List ℕ
reply_to Kind.Date text =
    reply date_text (without_place (date_or_timestamp TimestampUnit.Infer text))
reply_to Kind.Time text = reply time_text (without_place (time_answer Behavior.Error text))
reply_to Kind.DateTime text =
    reply date_time_text
    (without_place (date_time_or_timestamp TimestampUnit.Infer Behavior.Error None text))
reply_to Kind.Duration text =
    reply duration_text (without_place (duration_answer IsoOrder.Lax Behavior.Error text))
reply_to Kind.StrictDuration text =
    reply duration_text (without_place (duration_answer IsoOrder.Strict Behavior.Error text))

-- all kinds
abbrev pub kinds : List Kind
kinds = Kind.Date ∷ Kind.Time ∷ Kind.DateTime ∷ Kind.Duration ∷ Kind.StrictDuration ∷ []

-- what a line of a kind begins with: the kind's word and a space
abbrev pub front : Kind → List ℕ
front kind = word kind ++ space ∷ []

-- the kind whose word and a space begin a line, and the text after those
unfoldable pub kind_and_text : List Kind → List ℕ → Option (Kind × List ℕ)
kind_and_text [] line = None
kind_and_text (kind ∷ others) line =
    if bytes_eq (take (length (front kind)) line) (front kind)
    then Some (kind, drop (length (front kind)) line)
    else kind_and_text others line

-- the answer to a line by its kind
abbrev pub answer_by_kind : Option (Kind × List ℕ) → List ℕ
answer_by_kind None = err_answer (codes "unknown_kind")
answer_by_kind (Some found) = reply_to found.0 found.1

-- the answer to a line
unfoldable pub line_answer : List ℕ → List ℕ
line_answer line =
    if nat_lt longest_line (length line) then err_answer (codes "line_too_long")
    else answer_by_kind (kind_and_text kinds line)

-- the answers to lines, each ended by a line feed
abbrev pub answers : List (List ℕ) → List ℕ
answers lines = flat_map (λ line. line_answer line ++ line_feed ∷ []) lines

-- the machine of the program: it answers each line by its head, and never prints the line itself
abbrev pub answering : Machine Answering
answering = record {
  after = λ state head. state;
  text = λ state head. line_answer head ++ line_feed ∷ [];
  rest = λ state head. None;
  done = λ state. false;
}
