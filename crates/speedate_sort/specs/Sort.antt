-- The command `sort`: the entries in the order of their values.
use Rattle.std.specs.Prelude.{◌≡◌, ℕ, ℤ, ◌-◌, ◌≤◌, Bool, true, false, List, [], ◌∷◌, ◌++◌, length, take, drop, map, int_lt, Option, Some, None, Result, Ok, Err, if◌then◌else◌}
use Rattle.std.specs.Io.KnownBytes.{Consumes}
use Rattle.speedate_stream.specs.Machine.{head}
use Rattle.speedate_scan.specs.Print.{shown_name, with_colon}
use Rattle.speedate_scan.specs.Scan.{keeps, line_of, passed}
use Rattle.speedate_scan.specs.Entries.{Entry, Marked, entries, lines_text, marked, up_to_value}
use Rattle.speedate_sort.specs.Base.{LineKind, Prefix}
pub use Rattle.speedate_sort.specs.declared.sort.Keys.{Keys}
pub use Rattle.speedate_sort.specs.declared.sort.Place.{Place}
pub use Rattle.speedate_sort.specs.declared.sort.Unread.{Unread}
pub use Rattle.speedate_sort.specs.declared.sort.Unsorted.{Unsorted}

-- Lists in order.

module _ {X : Type 0} (lt : X → X → Bool) where
  -- an element put before the first one of a list that is not less
  abbrev pub put_in_order : X → List X → List X
  put_in_order x [] = x ∷ []
  put_in_order x (y ∷ ys) = if lt y x then y ∷ put_in_order x ys else x ∷ y ∷ ys

  -- a list in order: of two elements of which neither is less, the first one stays the first
  abbrev pub in_order : List X → List X
  in_order [] = []
  in_order (x ∷ xs) = put_in_order x (in_order xs)

-- Entries in order.

-- an entry comes before another
abbrev pub is_earlier_entry : Entry → Entry → Bool
is_earlier_entry first second = int_lt first.instant second.instant

-- the lines of entries that are not left out
abbrev pub all_text : List Entry → List ℕ
all_text [] = []
all_text (entry ∷ entries) = lines_text entry.lines ++ all_text entries

-- what is printed of lines: the entries in the order of their values, and those of one value as
-- they came; the lines before the first value are an entry of a given value
abbrev pub sorted_entries : ℤ → List Marked → List ℕ
sorted_entries first lines =
    all_text (in_order is_earlier_entry
    (record { instant = first; lines = up_to_value lines } ∷ entries lines))

-- Lines in memory.

-- a line as it is printed, with the value of its entry
pub record Keyed : Type 0 where
  pub instant : ℤ
  pub text : List ℕ

-- the value of the entry of a line
abbrev pub instant_after : ℤ → LineKind → ℤ
instant_after instant (LineKind.Value found) = found.instant
instant_after instant LineKind.Late = instant
instant_after instant LineKind.Header = instant
instant_after instant (LineKind.Bad bad) = instant
instant_after instant LineKind.Unfit = instant
instant_after instant LineKind.Undated = instant

-- a line, unless it is left out
abbrev pub if_kept : Bool → ℤ → List ℕ → List Keyed
if_kept kept instant text =
    if kept then record { instant = instant; text = text } ∷ [] else []

-- the lines that are not left out, each with the value of its entry, after an entry of a value
abbrev pub keyed : ℤ → List Marked → List Keyed
keyed instant [] = []
keyed instant (line ∷ lines) =
    let next = instant_after instant line.what in
    if_kept line.kept next line.printed ++ keyed next lines

-- nothing is printed before a line
abbrev pub no_prefix : Prefix
no_prefix = record { has_name = false; has_number = false }

-- the lines of a file that are not left out, each with the value of its entry
abbrev pub bare_lines : Keys → List (List ℕ) → List Keyed
bare_lines keys lines = keyed keys.instant (marked no_prefix keys.scan lines)

-- a line after a text, such as the name of its file
abbrev pub prefixed : List ℕ → Keyed → Keyed
prefixed prefix line = record line { text = prefix ++ line.text }

-- what is printed before each line of a file: its name and a colon, if that is asked for
abbrev pub name_text : Keys → List ℕ
name_text keys = with_colon keys.has_name (shown_name keys.scan.name.now)

-- the same, each after the name of the file, if that is asked for
unfoldable pub file_lines : Keys → List (List ℕ) → List Keyed
file_lines keys lines = map (prefixed (name_text keys)) (bare_lines keys lines)

-- what is known after a line
abbrev pub key_after : Keys → List ℕ → Keys
key_after keys line =
    let what = line_of keys.scan (head line) in
    record keys { scan = passed keys.scan what; instant = instant_after keys.instant what }

-- the value of the entry of a line by what it is, unless the line is left out
abbrev pub kept_instant : Keys → LineKind → Option ℤ
kept_instant keys what =
    if keeps keys.scan what then Some (instant_after keys.instant what) else None

-- the same by its text
abbrev pub key_of : Keys → List ℕ → Option ℤ
key_of keys line = kept_instant keys (line_of keys.scan (head line))

-- what is known after lines
abbrev pub keys_after : Keys → List (List ℕ) → Keys
keys_after keys [] = keys
keys_after keys (line ∷ lines) = keys_after (key_after keys line) lines

-- a line comes before another
abbrev pub is_earlier_line : Keyed → Keyed → Bool
is_earlier_line first second = int_lt first.instant second.instant

-- lines one after the other
abbrev pub texts : List Keyed → List ℕ
texts [] = []
texts (line ∷ lines) = line.text ++ texts lines

-- lines in the order of the values of their entries
abbrev pub sorted_text : List Keyed → List ℕ
sorted_text lines = texts (in_order is_earlier_line lines)

-- whether the output has failed, which had not failed before
abbrev pub FailsBy : Result (Unit {0}) Unsorted → Bool → Type 0
FailsBy (Ok ended) output = output ≡ false
FailsBy (Err Unsorted.Memory) output = output ≡ false
FailsBy (Err Unsorted.Write) output = output ≡ true

-- whether the input has failed: if this is the answer, it has, and if all was read, as before
abbrev pub FailsRead : Result (Unit {0}) Unread → Bool → Bool → Type 0
FailsRead (Ok ended) before after = after ≡ before
FailsRead (Err Unread.Read) before after = after ≡ true
FailsRead (Err Unread.Memory) before after = Unit {0}

-- what holds unless memory ran out
abbrev pub UnlessMemory : Result (Unit {0}) Unread → Type 0 → Type 0
UnlessMemory (Ok ended) Holds = Holds
UnlessMemory (Err Unread.Read) Holds = Holds
UnlessMemory (Err Unread.Memory) Holds = Unit {0}

-- a text begins with what it was
abbrev pub IsBegun : List ℕ → List ℕ → Type 0
IsBegun old new = take (length old) new ≡ old

-- what an input gave was appended to a text
abbrev pub Reads : Option (List ℕ) → Option (List ℕ) → List ℕ → List ℕ → Type 0
Reads unread_old unread_new old new = Consumes unread_old unread_new (drop (length old) new)

-- an input was read, and its lines, or those of them that are complete, were added to others in a
-- form
pub record Adds (form : Keys → List (List ℕ) → List Keyed)
    (lines_of : List ℕ → List (List ℕ)) (before after : List Keyed)
    (keys_before keys_after_them : Keys) (unread_old unread_new : Option (List ℕ)) : Type 0 where
  pub text : List ℕ
  pub consumed : Consumes unread_old unread_new text
  pub keys : keys_after_them ≡ keys_after keys_before (lines_of text)
  pub lines : after ≡ before ++ form keys_before (lines_of text)

-- Places of lines in a text.

-- a part of a text
abbrev pub part : List ℕ → ℕ → ℕ → List ℕ
part text from to = take (to - from) (drop from text)

-- the line at a place of a text
abbrev pub line_at : List ℕ → Place → Keyed
line_at text place =
    record { instant = place.instant; text = part text place.from place.to }

-- the lines at places of a text
abbrev pub lines_at : List ℕ → List Place → List Keyed
lines_at text places = map (line_at text) places

-- a place lies within a text
abbrev pub IsPlaced : List ℕ → Place → Type 0
IsPlaced text place = (place.from ≤ place.to) × (place.to ≤ length text)

-- a place comes before another
abbrev pub is_earlier : Place → Place → Bool
is_earlier first second = int_lt first.instant second.instant
