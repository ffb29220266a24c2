-- What a run has read and written where it ends.
use Rattle.std.specs.Prelude.{◌≡◌, ℕ, ◌≤◌, List, [], ◌++◌, length, take, Option, ◌⊎◌, Bool, true, false, ◌||◌, Result, Ok, Err, is_err, OnOk, OnErr}
use Rattle.std.specs.Io.KnownBytes.{Consumes, IsAtEnd, Appends}
use Rattle.speedate_stream.specs.declared.run.RunError.{RunError}
use Rattle.speedate_base.specs.Lines.{lines}
use Rattle.speedate_stream.specs.Machine.{Machine, lines_output, position_after, progress}
use Rattle.speedate_stream.specs.Machine.{state_after}
use Rattle.speedate_stream.specs.Watch.{Watch}

-- how many bytes one read gives at most: as many as fit into the block
abbrev pub longest_read : ℕ
longest_read = 69633

-- a read put what it read after the first bytes of a block, and nothing at the end of the input
pub record ReadsAfter (before after : Option (List ℕ)) (kept filled : ℕ)
    (old new : List ℕ) : Type 0 where
  pub more : List ℕ
  pub consumed : Consumes before after more
  pub one_read : length more ≤ longest_read
  pub room : kept ≤ length old
  pub ordered : kept ≤ filled
  pub within : filled ≤ length new
  pub text : take filled new ≡ take kept old ++ more
  pub nothing : filled ≡ kept → (more ≡ []) × IsAtEnd after

-- What has gone out of some bytes, and of the answers of a run that failed. It is said by what is
-- left, so a helper that fails midway and one that is done are steps of one chain.

-- some bytes have been written, except the last ones, which are left
pub record AppendsBut (left : List ℕ) (old new : Option (List ℕ)) (bytes : List ℕ) : Type 0 where
  pub written : List ℕ
  pub sent : Appends old new written
  pub whole : bytes ≡ written ++ left

-- a beginning of some bytes has been written
pub record AppendsBeginning (old new : Option (List ℕ)) (bytes : List ℕ) : Type 0 where
  pub left : List ℕ
  pub sent : AppendsBut left old new bytes

-- what a call leaves that has to write some bytes: all of them but the last ones, which are left,
-- or a beginning of them if it fails
pub record Writes {W A E : Type 0} (contents : W → Option (List ℕ)) (old new : Watch W)
    (result : Result A E) (left bytes : List ℕ) : Type 0 where
  pub failed : new.failed ≡ (old.failed || is_err result)
  pub sent : OnOk result (AppendsBut left (contents old.inner) (contents new.inner) bytes)
  pub beginning : OnErr result (AppendsBeginning (contents old.inner) (contents new.inner) bytes)

-- what a call leaves that has to write some bytes and does not flush
pub record OnlyWrites {W A E : Type 0} (contents : W → Option (List ℕ)) (old new : Watch W)
    (result : Result A E) (left bytes : List ℕ) : Type 0 where
  pub writes : Writes contents old new result left bytes
  pub unflushed : new.flushes ≡ old.flushes

-- a beginning of some bytes has been written, and in it the given first ones at least
pub record AppendsFrom (first : List ℕ) (old new : Option (List ℕ)) (bytes : List ℕ) : Type 0 where
  pub further : List ℕ
  pub left : List ℕ
  pub sent : Appends old new (first ++ further)
  pub whole : bytes ≡ first ++ further ++ left

-- the input is at its end, and what was written is what the machine prints for its lines
pub record PrintsLines {S : Type 0} (m : Machine S) (before after : S)
    (unread_old unread_new old new : Option (List ℕ)) : Type 0 where
  pub text : List ℕ
  pub consumed : Consumes unread_old unread_new text
  pub ended : IsAtEnd unread_new
  pub state : after ≡ state_after m before (lines text)
  pub sent : Appends old new (lines_output m before (lines text))

-- what was written is what the machine prints for what was read, which may go on
pub record PrintsProgress {S : Type 0} (m : Machine S) (before after : S)
    (unread_old unread_new old new : Option (List ℕ)) : Type 0 where
  pub text : List ℕ
  pub consumed : Consumes unread_old unread_new text
  pub state : after ≡ (position_after m before text).state
  pub sent : Appends old new (progress m before text)

-- how a run ends that nothing failed: all lines were printed, or the machine wants no further one
abbrev pub Ends : {S : Type 0} → Machine S → S → S → Option (List ℕ) → Option (List ℕ)
    → Option (List ℕ) → Option (List ℕ) → Type 0
Ends m before after unread_old unread_new old new =
    PrintsLines m before after unread_old unread_new old new
    ⊎ ((m.done after ≡ true) × PrintsProgress m before after unread_old unread_new old new)

-- what the machine prints for a text that may go on, or for all its lines if no input is left
abbrev pub IsDue : {S : Type 0} → Machine S → S → Option (List ℕ) → List ℕ → List ℕ → Type 0
IsDue m before unread text due =
    (due ≡ progress m before text) ⊎ (IsAtEnd unread × (due ≡ lines_output m before (lines text)))

-- what was written is a beginning of what was due after the last read, and all that was due before
-- it
pub record PrintsBeginning {S : Type 0} (m : Machine S) (before : S)
    (unread_old unread_new old new : Option (List ℕ)) : Type 0 where
  pub earlier : List ℕ
  pub latest : List ℕ
  pub due : List ℕ
  pub consumed : Consumes unread_old unread_new (earlier ++ latest)
  pub one_read : length latest ≤ longest_read
  pub is_due : IsDue m before unread_new (earlier ++ latest) due
  pub sent : AppendsFrom (progress m before earlier) old new due

-- which of the input and the output of a run has failed: one of them or neither, and never both
abbrev pub EndsBy : Result (Unit {0}) RunError → Bool → Bool → Type 0
EndsBy (Ok ended) input output = (input ≡ false) × (output ≡ false)
EndsBy (Err RunError.Read) input output = (input ≡ true) × (output ≡ false)
EndsBy (Err RunError.Write) input output = (input ≡ false) × (output ≡ true)
