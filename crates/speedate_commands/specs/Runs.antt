-- How a run of a command over an input ends, by what the command says of its lines.
use Rattle.std.specs.Prelude.{◌≡◌, ℕ, List, Option, ◌⊎◌, true}
use Rattle.std.specs.Io.KnownBytes.{Consumes, IsAtEnd, Appends}
use Rattle.speedate.specs.Lines.{lines}
use Rattle.speedate_stream.specs.Machine.{Machine}
use Rattle.speedate_stream.specs.Run.{PrintsProgress}
pub use Rattle.speedate_commands.specs.declared.command.About.{About}

-- the input is at its end, and of its lines was said what is known after them, and what was written
pub record SaysLines {S : Type 0} (Says : S → List (List ℕ) → S → List ℕ → Type 0)
    (before after : S) (unread_old unread_new old new : Option (List ℕ)) : Type 0 where
  pub text : List ℕ
  pub consumed : Consumes unread_old unread_new text
  pub ended : IsAtEnd unread_new
  pub printed : List ℕ
  pub said : Says before (lines text) after printed
  pub sent : Appends old new printed

-- a command that searches no file leaves all as it is
abbrev pub SearchesNone : {S : Type 0} → S → S → Option (List ℕ) → Option (List ℕ) → List ℕ → Type 0
SearchesNone before after old new text = (after ≡ before) × (new ≡ old)

-- how a run ends that nothing failed: all was said of the lines, or the command wants no further
-- line
abbrev pub EndsSaying : {S : Type 0} → Machine S → (S → List (List ℕ) → S → List ℕ → Type 0)
    → S → S → Option (List ℕ) → Option (List ℕ) → Option (List ℕ) → Option (List ℕ) → Type 0
EndsSaying m Says before after unread_old unread_new old new =
    SaysLines Says before after unread_old unread_new old new
    ⊎ ((m.done after ≡ true) × PrintsProgress m before after unread_old unread_new old new)
