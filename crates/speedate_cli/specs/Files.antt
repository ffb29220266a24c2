-- What a run of a command over files leaves: what is known of the lines, what was written, and the
-- status.
use Rattle.std.specs.Prelude.{◌≡◌, ℕ, ◌==◌, ◌||◌, ◌⊎◌, Bool, true, false, List, [], ◌∷◌, Option, Some, None, Result, Ok, Err, if◌then◌else◌}
use Rattle.std.specs.Borrow.{Bor}
use Rattle.std.specs.Io.KnownBytes.{Appends}
use Rattle.speedate_stream.specs.Machine.{Machine}
use Rattle.speedate_stream.specs.Run.{AppendsBeginning, PrintsBeginning, PrintsProgress}
use Rattle.speedate_stream.specs.declared.run.RunError.{RunError}
use Rattle.speedate_scan.specs.declared.scan.Offsets.{Offsets}
use Rattle.speedate_scan.specs.declared.scan.Scan.{Scan}
use Rattle.speedate_scan.specs.declared.scan.Stop.{Stop}
use Rattle.speedate_scan.specs.Scan.{is_without_value}
use Rattle.speedate_commands.specs.declared.command.About.{About}
use Rattle.speedate_commands.specs.Runs.{EndsSaying}
use Rattle.speedate_commands.specs.Status.{file_status, lines_status, worse}
use Rattle.speedate_sort.specs.declared.merge.Halt.{Halt}
use Rattle.speedate_sort.specs.declared.sort.Unsorted.{Unsorted}

-- how the run over a file ended: the file was not opened, or it was read up to its end, or up to
-- where one end failed
abbrev pub FileEnd : Type 0
FileEnd = Option (Result (Unit {0}) RunError)

-- the status by a file
abbrev pub end_status : FileEnd → Bool → ℕ
end_status None is_without_value = 3
end_status (Some ended) is_without_value = file_status ended is_without_value

-- the output failed, if that ended the run over the file
abbrev pub is_write : Result (Unit {0}) RunError → Bool
is_write (Ok done) = false
is_write (Err RunError.Read) = false
is_write (Err RunError.Write) = true

-- the first value did not fit the bounds
abbrev pub is_unfit : Stop → Offsets → Bool
is_unfit Stop.No offsets = false
is_unfit Stop.AtBad offsets = false
is_unfit Stop.AtUnfit Offsets.Any = false
is_unfit Stop.AtUnfit Offsets.AsFirst = false
is_unfit Stop.AtUnfit (Offsets.Only has_offset) = false
is_unfit Stop.AtUnfit (Offsets.AsBounds has_offset) = true

-- the status by the lines of all files
abbrev pub about_status : Scan → About → ℕ
about_status scan about =
    if is_unfit scan.stop scan.offsets then 2
    else lines_status scan.bad about.reported about.is_too_large

-- the status by why a merge ended before its inputs
abbrev pub halt_status : Halt → ℕ
halt_status (Halt.Unread cause) = 3
halt_status Halt.Bad = 1
halt_status (Halt.Late before) = 1
halt_status Halt.Unlike = 1

-- the status by how lines in memory were printed
abbrev pub sorted_status : Result (Unit {0}) Unsorted → ℕ
sorted_status (Ok done) = 0
sorted_status (Err Unsorted.Memory) = 3
sorted_status (Err Unsorted.Write) = 4

-- what was written of a text: all; nothing if memory ran out, or a beginning if a write failed
abbrev pub PrintsSorted : Result (Unit {0}) Unsorted → Option (List ℕ) → Option (List ℕ)
    → List ℕ → Type 0
PrintsSorted (Ok done) old new text = Appends old new text
PrintsSorted (Err Unsorted.Memory) old new text = new ≡ old
PrintsSorted (Err Unsorted.Write) old new text = AppendsBeginning old new text

-- of a command: what it does with a line, what is known of the lines, what is known when a file
-- begins, what is said of its lines, and what else a run has to know
module _ {S : Type 0} (machine : Machine S) (scan : S → Scan) (begun : S → Bor (List ℕ) → S)
    (Says : S → List (List ℕ) → S → List ℕ → Type 0) (about : S → About) where
  -- what was printed of a file that was opened, and is not searched
  abbrev pub Prints : Result (Unit {0}) RunError → S → S → Option (List ℕ) → Option (List ℕ)
      → Option (List ℕ) → Option (List ℕ) → Type 0
  Prints (Ok done) before after unread rest old new =
      EndsSaying machine Says before after unread rest old new
  Prints (Err RunError.Read) before after unread rest old new =
      PrintsProgress machine before after unread rest old new
  Prints (Err RunError.Write) before after unread rest old new =
      PrintsBeginning machine before unread rest old new

  -- what the run over a file leaves, by how it ended
  abbrev pub Leaves : FileEnd → S → S → Option (List ℕ) → Option (List ℕ) → Option (List ℕ)
      → Type 0
  Leaves None before after unread old new = (after ≡ before) × (new ≡ old)
  Leaves (Some ended) before after unread old new = (about before).is_in_order ≡ false
      → (rest : Option (List ℕ)) × Prints ended before after unread rest old new

  -- the run over a file with this name and these contents
  pub record RunsFile (name : List ℕ) (unread : Option (List ℕ)) (before after : S)
      (old new : Option (List ℕ)) (status : ℕ) : Type 0 where
    pub entry : Bor (List ℕ)
    pub named : entry.now ≡ name
    pub ended : FileEnd
    pub status_is : status ≡ end_status ended (is_without_value (scan after))
    pub left : Leaves ended (begun before entry) after unread old new

  -- no further file is opened: a write failed, or the command wants no further line
  abbrev pub is_over : S → ℕ → Bool
  is_over state status = (status == 4) || machine.done state

  -- The run over files with these names and contents, one after the other: each begins with what
  -- is known after the one before, and the status is the largest.
  abbrev pub RunsFiles : (List ℕ → Option (List ℕ)) → List (Bor (List ℕ)) → S → S
      → Option (List ℕ) → Option (List ℕ) → ℕ → ℕ → Type 0
  RunsFiles contents [] before after old new status last =
      (after ≡ before) × ((new ≡ old) × (last ≡ status))
  RunsFiles contents (name ∷ names) before after old new status last =
      ((is_over before status ≡ true) × ((after ≡ before) × ((new ≡ old) × (last ≡ status))))
      ⊎ ((is_over before status ≡ false)
      × ((halfway : S) × ((sent : Option (List ℕ)) × ((one : ℕ)
      × (RunsFile name.now (contents name.now) before halfway old sent one
      × RunsFiles contents names halfway after sent new (worse status one) last)))))
