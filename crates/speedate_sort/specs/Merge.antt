-- The command `merge`: the lines of files that are each in order.
use Rattle.std.specs.Prelude.{◌≡◌, ℕ, ◌+◌, ◌-◌, ◌==◌, ◌⊎◌, ℤ, Bool, true, false, not, List, [], ◌∷◌, ◌++◌, length, map, set, take, slice_index, int_lt, Option, Some, None, All, IfSome, IsNone, IsSome, slice_get, if◌then◌else◌}
use Rattle.speedate.specs.Ascii.{line_feed}
use Rattle.speedate.specs.Lines.{lines}
use Rattle.speedate_stream.specs.Machine.{head}
use Rattle.speedate_stream.specs.Run.{AppendsBut}
use Rattle.speedate_stream.specs.Watch.{one_more}
use Rattle.speedate_scan.specs.Scan.{is_stopped, is_value, line_of}
use Rattle.speedate_sort.specs.Base.{LineKind, Offsets, Scan}
use Rattle.speedate_sort.specs.Sort.{Keyed, Keys, Unread, file_lines, key_after, name_text}
use Rattle.speedate_sort.specs.Sort.{sorted_text}
pub use Rattle.speedate_sort.specs.declared.merge.Before.{Before}
pub use Rattle.speedate_sort.specs.declared.merge.Best.{Best}
pub use Rattle.speedate_sort.specs.declared.merge.Halt.{Halt}
pub use Rattle.speedate_sort.specs.declared.merge.Halted.{Halted}
pub use Rattle.speedate_sort.specs.declared.merge.Source.{Source}

-- Lines in order.

-- lines up to the first one that is earlier than the line before it, after a line of a value
abbrev pub risen_after : ℤ → List Keyed → List Keyed
risen_after before [] = []
risen_after before (line ∷ lines) =
    if int_lt line.instant before then [] else line ∷ risen_after line.instant lines

-- lines up to the first one that is earlier than the line before it
abbrev pub risen : List Keyed → List Keyed
risen [] = []
risen (line ∷ lines) = line ∷ risen_after line.instant lines

-- no line is earlier than the line before it, after a line of a value
abbrev pub AreInOrderAfter : ℤ → List Keyed → Type 0
AreInOrderAfter before [] = Unit {0}
AreInOrderAfter before (line ∷ lines) =
    (int_lt line.instant before ≡ false) × AreInOrderAfter line.instant lines

-- no line is earlier than the line before it
abbrev pub AreInOrder : List Keyed → Type 0
AreInOrder [] = Unit {0}
AreInOrder (line ∷ lines) = AreInOrderAfter line.instant lines

-- the lines of each file are in order
abbrev pub AreAllInOrder : List (List Keyed) → Type 0
AreAllInOrder [] = Unit {0}
AreAllInOrder (lines ∷ others) = AreInOrder lines × AreAllInOrder others

-- the lines of all files, one file after the other
abbrev pub joined : List (List Keyed) → List Keyed
joined [] = []
joined (lines ∷ others) = lines ++ joined others

-- the same, of each file up to its first line that is out of order
abbrev pub risen_joined : List (List Keyed) → List Keyed
risen_joined [] = []
risen_joined (lines ∷ others) = risen lines ++ risen_joined others

-- what is printed of files: their lines in the order of their values, and those of one value as the
-- files have them, one file after the other
abbrev pub merged_text : List (List Keyed) → List ℕ
merged_text files = sorted_text (joined files)

-- the same, of each file up to its first line that is out of order
abbrev pub due : List (List Keyed) → List ℕ
due files = sorted_text (risen_joined files)

-- The lines of a source.

-- the bytes that a reader has left, where they are known
abbrev pub bytes_of : Option (List ℕ) → List ℕ
bytes_of None = []
bytes_of (Some bytes) = bytes

-- the lines that are left to be read
abbrev pub unread : Option (List ℕ) → Keys → List Keyed
unread remaining keys = file_lines keys (lines (bytes_of remaining))

-- the line that was read last, after what is printed before it, with the value of its entry, and
-- others after it; no line is left if it is empty
abbrev pub line_and : List ℕ → ℤ → List ℕ → List Keyed → List Keyed
line_and prefix instant [] others = []
line_and prefix instant (byte ∷ bytes) others =
    record { instant = instant; text = prefix ++ byte ∷ bytes } ∷ others

-- the line that was read last, and those that are left to be read
abbrev pub lines_left : Option (List ℕ) → Keys → List ℕ → List Keyed
lines_left remaining keys line =
    line_and (name_text keys) keys.instant line (unread remaining keys)

-- the line that was read last, after what is printed before it
abbrev pub printed_first : {R : Type 0} → Source R → List ℕ
printed_first source = name_text source.keys ++ source.line.items

-- the value of the line that was read last, if it is not empty
abbrev pub instant_of : ℤ → List ℕ → Option ℤ
instant_of instant [] = None
instant_of instant (byte ∷ bytes) = Some instant

-- a line with the line feed that ends it
abbrev pub ended : List ℕ → List ℕ
ended line =
    if slice_index line (length line - 1) == line_feed then line else line ++ line_feed ∷ []

-- a line without the line feed that ends it, unless there is none
abbrev pub bare : List ℕ → List (List ℕ)
bare [] = []
bare (byte ∷ bytes) = take (length (byte ∷ bytes) - 1) (byte ∷ bytes) ∷ []

-- a line with a line feed at its end, if there is one
abbrev pub with_feed : List (List ℕ) → List ℕ
with_feed [] = []
with_feed (line ∷ lines) = line ++ line_feed ∷ []

-- the next line of a text was read, and a line feed ends it; it is empty if there is none
pub record ReadsLine (before after : Option (List ℕ)) (line : List ℕ) : Type 0 where
  pub known : IsSome after
  pub feed : line ≡ with_feed (bare line)
  pub lines : lines (bytes_of before) ≡ bare line ++ lines (bytes_of after)
  pub end : line ≡ [] → bytes_of after ≡ []

-- the next line of a source was read that is not left out; it is empty if there is none
pub record Moves (before after : Option (List ℕ)) (old new : Keys) (line : List ℕ) : Type 0 where
  pub known : IsSome after
  pub lines : unread before old ≡ lines_left after new line
  pub order : int_lt new.instant old.instant ≡ false

-- the line that was read last is earlier than the line before it, if that ended the lines; that
-- line has this number
abbrev pub IsLate : Halt → Keys → ℕ → Keys → Type 0
IsLate (Halt.Late before) old number new =
    (before.instant ≡ old.instant) × (int_lt new.instant before.instant ≡ true)
    × (before.number ≡ number)
IsLate (Halt.Unread cause) old number new = Unit {0}
IsLate Halt.Bad old number new = Unit {0}
IsLate Halt.Unlike old number new = Unit {0}

-- a read has failed, if that ended the lines
abbrev pub IsUnread : Halt → Bool → Type 0
IsUnread (Halt.Unread Unread.Read) failed = failed ≡ true
IsUnread (Halt.Unread Unread.Memory) failed = Unit {0}
IsUnread Halt.Bad failed = Unit {0}
IsUnread (Halt.Late before) failed = Unit {0}
IsUnread Halt.Unlike failed = Unit {0}

-- the number of the last line that has a value, after a line
abbrev pub number_after : Scan → ℕ → LineKind → ℕ
number_after scan number line = if is_value line then one_more scan.number else number

-- the same by the text of the line
abbrev pub number_of : Keys → ℕ → List ℕ → ℕ
number_of keys number text = number_after keys.scan number (line_of keys.scan (head text))

-- a line of this text was read last: the number of the last line that has a value, before and after
-- it
pub record IsCounted (new : Keys) (text : List ℕ) (before after : ℕ) : Type 0 where
  pub keys : Keys
  pub passed : new ≡ key_after keys text
  pub number : after ≡ number_of keys before text

-- the same of one line, if there is one; without one the number stays as it is
abbrev pub IsNumbered : Keys → List (List ℕ) → ℕ → ℕ → Type 0
IsNumbered new [] before after = after ≡ before
IsNumbered new (text ∷ others) before after = IsCounted new text before after

-- one kind of values has offsets, and the other has none
abbrev pub are_unlike : Offsets → Offsets → Bool
are_unlike (Offsets.Only first) (Offsets.Only second) = if first then not second else second
are_unlike (Offsets.Only first) Offsets.Any = false
are_unlike (Offsets.Only first) Offsets.AsFirst = false
are_unlike (Offsets.Only first) (Offsets.AsBounds second) = false
are_unlike Offsets.Any second = false
are_unlike Offsets.AsFirst second = false
are_unlike (Offsets.AsBounds first) second = false

-- whether values have offsets stays as it is, once it is settled
abbrev pub StaysSettled : Offsets → Offsets → Type 0
StaysSettled (Offsets.Only first) after = after ≡ Offsets.Only first
StaysSettled Offsets.Any after = Unit {0}
StaysSettled Offsets.AsFirst after = Unit {0}
StaysSettled (Offsets.AsBounds first) after = Unit {0}

-- which values fit, once those of a source are known: as is settled, or else as they have it
abbrev pub settled_by : Offsets → Offsets → Offsets
settled_by (Offsets.Only first) own = Offsets.Only first
settled_by Offsets.Any own = own
settled_by Offsets.AsFirst own = own
settled_by (Offsets.AsBounds first) own = own

-- values that have offsets, or have none, are as it is settled
abbrev pub IsAlike : Offsets → Offsets → Type 0
IsAlike offsets (Offsets.Only own) = offsets ≡ Offsets.Only own
IsAlike offsets Offsets.Any = Unit {0}
IsAlike offsets Offsets.AsFirst = Unit {0}
IsAlike offsets (Offsets.AsBounds own) = Unit {0}

-- so are those of all sources
abbrev pub AreAlike : {R : Type 0} → Offsets → List (Source R) → Type 0
AreAlike offsets sources = All (λ source. IsAlike offsets source.keys.scan.offsets) sources

-- The source with the least line.

-- the best of some sources, and a further one, whose line has a value or which has none
abbrev pub better : Option Best → ℕ → Option ℤ → Option Best
better best index None = best
better None index (Some instant) = Some (record { index = index; instant = instant })
better (Some best) index (Some instant) =
    if int_lt instant best.instant then Some (record { index = index; instant = instant })
    else Some best

-- the same of further ones, from an index on
abbrev pub best_from : Option Best → ℕ → List (Option ℤ) → Option Best
best_from best index [] = best
best_from best index (instant ∷ instants) =
    best_from (better best index instant) (index + 1) instants

-- the first of those with the least line
abbrev pub best_of : List (Option ℤ) → Option Best
best_of instants = best_from None 0 instants

-- the values of the lines of sources
abbrev pub instants : {R : Type 0} → List (Source R) → List (Option ℤ)
instants sources = map (λ source. instant_of source.keys.instant source.line.items) sources

-- What is printed of sources.

-- the lines of sources that are left
abbrev pub files_left : {R : Type 0} → (R → Option (List ℕ)) → List (Source R)
    → List (List Keyed)
files_left remaining sources =
    map (λ source. lines_left (remaining source.input) source.keys source.line.items) sources

-- the bytes that are left of the sources are known
abbrev pub AreKnown : {R : Type 0} → (R → Option (List ℕ)) → List (Source R) → Type 0
AreKnown remaining sources = All (λ source. IsSome (remaining source.input)) sources

-- what is printed of the lines that are left once a source has ended the merge: of those of the
-- other sources, and of some of its own
abbrev pub IsLeft : List (List Keyed) → List ℕ → Halted → Type 0
IsLeft files left halted = (own : List Keyed) × (left ≡ due (set files halted.index own))

-- what is printed of files was written, but for what waits and what is left of it, now that these
-- lines are left; nothing is left if the merge did not end before, and then the files are in order
pub record Merges (files now : List (List Keyed)) (before after : Option (List ℕ))
    (waited waiting : List ℕ) (halted : Option Halted) : Type 0 where
  pub left : List ℕ
  pub sent : AppendsBut (waiting ++ left) before after (waited ++ due files)
  pub all : IsNone halted → (left ≡ []) × AreAllInOrder files
  pub others : IfSome halted (IsLeft now left)

-- what is printed of files was written, but for what is left once a source has ended the merge
pub record MergesUpTo (files now : List (List Keyed)) (before after : Option (List ℕ))
    (halted : Halted) : Type 0 where
  pub left : List ℕ
  pub sent : AppendsBut left before after (due files)
  pub others : IsLeft now left halted

-- why the lines of a source ended: a read has failed, a bad value ended the run, the last value is
-- earlier than the one before it, or unlike those of other sources
abbrev pub IsHalt : {R : Type 0} → Offsets → Halt → Source R → Type 0
IsHalt offsets (Halt.Unread Unread.Read) source = source.failed ≡ true
IsHalt offsets (Halt.Unread Unread.Memory) source = Unit {0}
IsHalt offsets Halt.Bad source = is_stopped source.keys.scan.stop ≡ true
IsHalt offsets (Halt.Late before) source = int_lt source.keys.instant before.instant ≡ true
IsHalt offsets Halt.Unlike source = are_unlike offsets source.keys.scan.offsets ≡ true

-- it is so of the source that is named, by what was settled then
pub record NamesHalt {R : Type 0} (offsets : Offsets) (halted : Halted)
    (sources : List (Source R)) : Type 0 where
  pub source : Source R
  pub named : slice_get sources halted.index ≡ Some source
  pub now : Offsets
  pub settled : StaysSettled offsets now
  pub halt : IsHalt now halted.halt source

-- the same, unless memory ran out
abbrev pub IsHaltIn : {R : Type 0} → Offsets → Halted → List (Source R) → Type 0
IsHaltIn offsets halted sources =
    (halted.halt ≡ Halt.Unread Unread.Memory) ⊎ NamesHalt offsets halted sources
