-- What a run of the program has read and written where it ends.
use Rattle.std.specs.Prelude.{◌≡◌, ℕ, ◌≤◌, List, ◌++◌, length, Option, ◌⊎◌, codes, Result, Ok, Err}
use Rattle.std.specs.Io.KnownBytes.{Consumes, IsAtEnd, Appends}
use Rattle.speedate_stream.specs.declared.run.RunError.{RunError}
use Rattle.speedate_stream.specs.Run.{AppendsFrom, longest_read}
use Rattle.speedate.specs.Lines.{complete_lines, lines}
use Rattle.speedate_lines.specs.Answer.{answers}

-- what was written is the answers to the complete lines of what was read
pub record AnswersCompleteLines (unread_old unread_new old new : Option (List ℕ)) : Type 0 where
  pub text : List ℕ
  pub consumed : Consumes unread_old unread_new text
  pub sent : Appends old new (answers (complete_lines text))

-- the answers to the complete lines of a text, or to all its lines if no input is left
abbrev pub AreDue : Option (List ℕ) → List ℕ → List ℕ → Type 0
AreDue unread text due =
    (due ≡ answers (complete_lines text)) ⊎ (IsAtEnd unread × (due ≡ answers (lines text)))

-- what was written is a beginning of the answers that were due after the last read, and all that
-- were due before it
pub record AnswersBeginning (unread_old unread_new old new : Option (List ℕ)) : Type 0 where
  pub earlier : List ℕ
  pub latest : List ℕ
  pub due : List ℕ
  pub consumed : Consumes unread_old unread_new (earlier ++ latest)
  pub one_read : length latest ≤ longest_read
  pub is_due : AreDue unread_new (earlier ++ latest) due
  pub sent : AppendsFrom (answers (complete_lines earlier)) old new due

-- How the program tells how a run ended.

-- the exit status, and what standard error is told
abbrev pub outcome_of : Result (Unit {0}) RunError → ℕ × List ℕ
outcome_of (Ok ended) = (0, codes "")
outcome_of (Err RunError.Read) = (1, codes "input failed")
outcome_of (Err RunError.Write) = (2, codes "output failed")
