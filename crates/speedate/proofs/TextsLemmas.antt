-- Texts that offsets cut out of bytes, and the column of them, text by text.
use Rattle.std.proofs.Common.{rules, true, ◌≡◌, ◌∙◌, ap, refl, ℕ, zero, suc, ◌+◌, ◌-◌, ◌<◌, List, [], ◌∷◌, length, get_or, take, drop, add-one, ℤ, pos, ◌≤ℤ◌, arith, Option, None, Result}
use Rattle.std.proofs.lemmas.Bool.{and_parts}
use Rattle.std.proofs.lemmas.Int.{ints}
use Rattle.speedate.specs.Column.{LineError, column, entry, onto_column}
use Rattle.speedate.specs.Texts.{bytes_between, cut_at, rise_within}

-- the offset before others that rise
record IsFirst (least : ℤ) (size : ℕ) (offset : ℤ) (offsets : List ℤ) : Type 0 where
  pub after : least ≤ℤ offset
  pub within : offset ≤ℤ pos size
  pub rise : rise_within offset size offsets ≡ true

first-is : (least : ℤ) (size : ℕ) (offset : ℤ) (offsets : List ℤ)
    → rise_within least size (offset ∷ offsets) ≡ true → IsFirst least size offset offsets
first-is least size offset offsets rise = search (rules, and_parts)

-- an offset from a least one on, and within so many bytes
pub record IsOffset (least : ℤ) (size : ℕ) (offset : ℤ) : Type 0 where
  pub after : least ≤ℤ offset
  pub within : offset ≤ℤ pos size

pub IsOffset-at : (least : ℤ) (size : ℕ) (offsets : List ℤ) (place : ℕ)
    → rise_within least size offsets ≡ true → place < length offsets
    → IsOffset least size (get_or offsets place (pos 0))
IsOffset-at least size [] place rise within = absurd (omega (arith, within))
IsOffset-at least size (offset ∷ offsets) zero rise within = search (rules, first-is)
IsOffset-at least size (offset ∷ offsets) (suc place) rise within =
    let first = first-is least size offset offsets rise in
    let next = IsOffset-at offset size offsets place first.rise (omega (arith, within)) in
    record { after = omega (arith, ints, first.after, next.after); within = next.within }

-- none is negative after a least one that is not
pub offset-positive : (least : ℤ) (size : ℕ) (offsets : List ℤ) (place : ℕ) → pos 0 ≤ℤ least
    → rise_within least size offsets ≡ true → pos 0 ≤ℤ get_or offsets place (pos 0)
offset-positive least size [] place positive rise = omega (arith, ints)
offset-positive least size (offset ∷ offsets) zero positive rise = search (rules, first-is)
offset-positive least size (offset ∷ offsets) (suc place) positive rise =
    let first = first-is least size offset offsets rise in
    let next : pos 0 ≤ℤ offset = omega (arith, ints, positive, first.after) in
    offset-positive offset size offsets place next first.rise

-- the offsets after a place are from the one there on
IsOffset-suc : (least : ℤ) (size : ℕ) (offsets : List ℤ) (place : ℕ)
    → rise_within least size offsets ≡ true → suc place < length offsets
    → IsOffset (get_or offsets place (pos 0)) size (get_or offsets (suc place) (pos 0))
IsOffset-suc least size [] place rise within = absurd (omega (arith, within))
IsOffset-suc least size (offset ∷ offsets) zero rise within =
    let first = first-is least size offset offsets rise in
    IsOffset-at offset size offsets 0 first.rise (omega (arith, within))
IsOffset-suc least size (offset ∷ offsets) (suc place) rise within =
    let first = first-is least size offset offsets rise in
    IsOffset-suc offset size offsets place first.rise (omega (arith, within))

pub IsOffset-next : (least : ℤ) (size : ℕ) (offsets : List ℤ) (place : ℕ)
    → rise_within least size offsets ≡ true → place + 1 < length offsets
    → IsOffset (get_or offsets place (pos 0)) size (get_or offsets (place + 1) (pos 0))
IsOffset-next least size offsets place rise within =
    rw (add-one place) (IsOffset-suc least size offsets place rise (omega (arith, within)))

-- the texts from a place on begin with the one between the offsets there
cut_at-suc : (offsets : List ℤ) (bytes : List ℕ) (place : ℕ) → suc place < length offsets
    → drop place (cut_at offsets bytes)
    ≡ bytes_between (get_or offsets place (pos 0)) (get_or offsets (suc place) (pos 0)) bytes
    ∷ drop (suc place) (cut_at offsets bytes)
cut_at-suc [] bytes place within = absurd (omega (arith, within))
cut_at-suc (start ∷ []) bytes place within = absurd (omega (arith, within))
cut_at-suc (start ∷ end ∷ ends) bytes zero within = refl
cut_at-suc (start ∷ end ∷ ends) bytes (suc place) within =
    cut_at-suc (end ∷ ends) bytes place (omega (arith, within))

pub cut_at-next : (offsets : List ℤ) (bytes : List ℕ) (place : ℕ) → place + 1 < length offsets
    → drop place (cut_at offsets bytes)
    ≡ bytes_between (get_or offsets place (pos 0)) (get_or offsets (place + 1) (pos 0)) bytes
    ∷ drop (place + 1) (cut_at offsets bytes)
cut_at-next offsets bytes place within =
    rw (add-one place) (cut_at-suc offsets bytes place (omega (arith, within)))

pub length-cut_at : (offsets : List ℤ) (bytes : List ℕ)
    → length (cut_at offsets bytes) ≡ length offsets - 1
length-cut_at [] bytes = refl
length-cut_at (start ∷ []) bytes = refl
length-cut_at (start ∷ end ∷ ends) bytes =
    ap suc (length-cut_at (end ∷ ends) bytes) ∙ omega arith

-- the same with only some of the texts
taken-suc : {X : Type 0} → (texts : List X) (place count : ℕ) (text : X) → place < count
    → drop place texts ≡ text ∷ drop (suc place) texts
    → drop place (take count texts) ≡ text ∷ drop (suc place) (take count texts)
taken-suc texts place zero text within next = absurd (omega (arith, within))
taken-suc [] zero (suc count) text within next = cc
taken-suc [] (suc place) (suc count) text within next = cc
taken-suc {X = X} (one ∷ ones) zero (suc count) text within next =
    let same : one ≡ text = cc in ap (λ (first : X). first ∷ take count ones) same
taken-suc (one ∷ ones) (suc place) (suc count) text within next =
    taken-suc ones place count text (omega (arith, within)) next

pub taken-next : {X : Type 0} → (texts : List X) (place count : ℕ) (text : X) → place < count
    → drop place texts ≡ text ∷ drop (place + 1) texts
    → drop place (take count texts) ≡ text ∷ drop (place + 1) (take count texts)
taken-next texts place count text within next =
    rw (add-one place) (taken-suc texts place count text within (rw (add-one place) at next))

-- none is left after all
pub taken-none : {X : Type 0} → (texts : List X) (count : ℕ) → drop count (take count texts) ≡ []
taken-none texts zero = refl
taken-none [] (suc count) = refl
taken-none (one ∷ ones) (suc count) = taken-none ones count

-- what is held of a text is put before the column of those after it
pub column-next : {N : Type 0} → (answer : List ℕ → Result N LineError) (refused : Option N)
    (texts : List (List ℕ)) (place : ℕ) (text : List ℕ) (given : Result N LineError)
    (held : Result (N × ℕ) LineError)
    → drop place texts ≡ text ∷ drop (place + 1) texts → given ≡ answer text
    → held ≡ entry refused given
    → column answer refused (drop place texts)
    ≡ onto_column held (column answer refused (drop (place + 1) texts))
column-next {N = N} answer refused texts place text given held next answered is = search rules

pub column-end : {N : Type 0} → (answer : List ℕ → Result N LineError) (refused : Option N)
    (texts : List (List ℕ)) (count : ℕ)
    → column answer refused (drop count (take count texts))
    ≡ record { numbers = []; errors = []; fault = None }
column-end answer refused texts count = ap (column answer refused) (taken-none texts count)
