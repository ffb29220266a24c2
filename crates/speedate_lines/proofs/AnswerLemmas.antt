-- The answer to a line, case by case.
use Rattle.std.proofs.Common.{◌≡◌, ℕ, ◌<◌, ◌≤◌, List, [], ◌∷◌, ◌++◌, length, refl, codes, Result, Ok}
use Rattle.speedate.specs.Base.{ParseError}
use Rattle.std.proofs.lemmas.Bool.{lt-ltb, le-ltb}
use Rattle.speedate.specs.Ascii.{line_feed}
use Rattle.speedate_stream.specs.Machine.{longest_line}
use Rattle.speedate_lines.specs.Answer.{kinds, kind_and_text, answer_by_kind}
use Rattle.speedate_lines.specs.Answer.{line_answer, reply, ok_answer, err_answer}

pub line_answer-long : (line : List ℕ) → longest_line < length line
    → line_answer line ≡ err_answer (codes "line_too_long")
unfolding line_answer
line_answer-long line long = rw (lt-ltb longest_line (length line) long) refl

pub line_answer-short : (line : List ℕ) → length line ≤ longest_line
    → line_answer line ≡ answer_by_kind (kind_and_text kinds line)
unfolding line_answer
line_answer-short line short = rw (le-ltb longest_line (length line) short) refl

-- the answer to a text that was read as a value, which is printed, is the reply to the text
pub reply-printed : {A : Type 0} (text : A → List ℕ) (value : A) (read : Result A ParseError)
    (old printed new : List ℕ)
    → new ≡ old ++ (ok_answer printed ++ line_feed ∷ []) → printed ≡ text value → Ok value ≡ read
    → new ≡ old ++ (reply text read ++ line_feed ∷ [])
reply-printed text value read old printed new answered is_text is_read =
    rw (← is_read, ← is_text) answered
