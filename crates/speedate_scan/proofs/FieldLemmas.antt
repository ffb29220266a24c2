-- Where the fields of a line are.
use Rattle.std.proofs.Common.{◌≡◌, ◌≢◌, ◌∙◌, ℕ, ◌+◌, ◌-◌, ◌<◌, ◌≤◌, zero, suc, Bool, List, [], ◌∷◌, length, take, drop, true, false, Some, None, refl, ap, arith, get_or, length-drop, inl, inr}
use Rattle.std.proofs.Math.ListN.{get_or-eq_default}
use Rattle.std.proofs.lemmas.Bool.{cases_lt, le-ltb, lt-ltb, ne_eqb}
use Rattle.std.proofs.lemmas.Bool.Decides.{nat_tests}
use Rattle.std.specs.Prelude.{◌==◌, slice_index}
use Rattle.std.specs.List.{position, position_or_len}
use Rattle.std.proofs.lemmas.List.{drop_all, get_or-drop, take_rest}
use Rattle.std.proofs.lemmas.List.Sums.{prefix_len-le-length}
use Rattle.speedate_scan.specs.Field.{before_quote, field_after, field_at, next_separator}
use Rattle.speedate_scan.proofs.WordLemmas.{parts_at}

-- a quote stands within its text
pub quote_within : (text : List ℕ) (place : ℕ) → slice_index text place ≡ 34 → place < length text
quote_within text place is = elim (cases_lt place (length text)) [
  | inl less ↦ less
  | inr past ↦ let none : slice_index text place ≡ 0 = get_or-eq_default text 0 past in
      omega (arith, is, none)
]

is_quote : (byte : ℕ) → byte ≡ 34 → (byte == 34) ≡ true
is_quote byte same = grind (arith, nat_tests)

-- Bytes of a quoted field, by the first of them.

other_first : (byte : ℕ) (bytes : List ℕ) → (byte == 34) ≡ false
    → before_quote (byte ∷ bytes) ≡ 1 + before_quote bytes
unfolding before_quote
other_first byte [] other = rw other refl
other_first byte (next ∷ bytes) other = rw other refl

doubled_first : (byte next : ℕ) (bytes : List ℕ) → (byte == 34) ≡ true → (next == 34) ≡ true
    → before_quote (byte ∷ next ∷ bytes) ≡ 2 + before_quote bytes
unfolding before_quote
doubled_first byte next bytes first second = rw (first, second) refl

single_first : (byte : ℕ) (bytes : List ℕ) → (byte == 34) ≡ true
    → (get_or bytes 0 0 == 34) ≡ false → before_quote (byte ∷ bytes) ≡ 0
unfolding before_quote
single_first byte [] first other = rw first refl
single_first byte (next ∷ bytes) first other = rw (first, other) refl

nothing_first : before_quote [] ≡ 0
unfolding before_quote
nothing_first = refl

-- The same from a place of a text on.

-- a byte that is no quote is passed
pub quote_later : (text : List ℕ) (place : ℕ) → place < length text → get_or text place 0 ≢ 34
    → before_quote (drop place text) ≡ 1 + before_quote (drop (place + 1) text)
quote_later text place within other =
    ap before_quote (parts_at text place within)
    ∙ other_first (get_or text place 0) (drop (place + 1) text)
    (ne_eqb (get_or text place 0) 34 other)

-- a doubled quote is passed
pub quote_doubled : (text : List ℕ) (place : ℕ) → place + 1 < length text
    → get_or text place 0 ≡ 34 → get_or text (place + 1) 0 ≡ 34
    → before_quote (drop place text) ≡ 2 + before_quote (drop (place + 2) text)
quote_doubled text place within first second =
    let here : place < length text = omega arith in
    let after : place + 1 + 1 ≡ place + 2 = omega arith in
    ap before_quote (parts_at text place here)
    ∙ ap (λ (l : List ℕ). before_quote (get_or text place 0 ∷ l)) (parts_at text (place + 1) within)
    ∙ doubled_first (get_or text place 0) (get_or text (place + 1) 0) (drop (place + 1 + 1) text)
    (is_quote (get_or text place 0) first) (is_quote (get_or text (place + 1) 0) second)
    ∙ ap (λ (n : ℕ). 2 + before_quote (drop n text)) after

-- the byte after a place, as the first one of what follows it
first_after : (text : List ℕ) (place : ℕ) → get_or (drop place text) 0 0 ≡ get_or text place 0
first_after text place = get_or-drop place text 0 0 ∙ ap (λ (n : ℕ). get_or text n 0) (omega arith)

-- a quote that is not doubled closes the field
pub quote_here : (text : List ℕ) (place : ℕ) → place < length text → get_or text place 0 ≡ 34
    → get_or text (place + 1) 0 ≢ 34 → before_quote (drop place text) ≡ 0
quote_here text place within first other =
    let next : (get_or (drop (place + 1) text) 0 0 == 34) ≡ false =
    rw (first_after text (place + 1)) (ne_eqb (get_or text (place + 1) 0) 34 other) in
    ap before_quote (parts_at text place within)
    ∙ single_first (get_or text place 0) (drop (place + 1) text)
    (is_quote (get_or text place 0) first) next

-- without a quote the field goes to the text's end
pub quote_nowhere : (text : List ℕ) (place : ℕ) → length text ≤ place
    → before_quote (drop place text) ≡ 0
quote_nowhere text place ended = ap before_quote (drop_all place text ended) ∙ nothing_first

-- The next separator.

separator_is : (test : ℕ → Bool) (text : List ℕ) (place : ℕ)
    → Some place ≡ position test text → place ≡ position_or_len test text
separator_is test text place found = grind (arith, nat_tests, prefix_len-le-length)

no_separator : (test : ℕ → Bool) (text : List ℕ)
    → None ≡ position test text → length text ≡ position_or_len test text
no_separator test text none = grind (arith, nat_tests, prefix_len-le-length)

pub separator_from : (separator : ℕ) (text : List ℕ) (from place : ℕ)
    → Some place ≡ position (λ byte. byte == separator) (drop from text)
    → from + place ≡ next_separator separator text from
separator_from separator text from place found =
    ap (λ (n : ℕ). from + n) (separator_is (λ byte. byte == separator) (drop from text) place found)

pub no_separator_from : (separator : ℕ) (text : List ℕ) (from : ℕ) → from ≤ length text
    → None ≡ position (λ byte. byte == separator) (drop from text)
    → length text ≡ next_separator separator text from
no_separator_from separator text from within none =
    let left = length-drop from text in
    omega (arith, no_separator (λ byte. byte == separator) (drop from text) none, left)

pub no_separator_after : (separator : ℕ) (text : List ℕ) (from : ℕ) → from ≤ length text
    → None ≡ position (λ byte. byte == separator) (take (length text - from) (drop from text))
    → length text ≡ next_separator separator text from
no_separator_after separator text from within none =
    no_separator_from separator text from within (rw take_rest at none)

-- The field after others.

-- a field that is sought after others is sought after the first of them
pub field_later : (separator : ℕ) (text : List ℕ) (start others : ℕ) → 0 < others
    → (field_at separator text start).end < length text
    → field_after separator text start others
    ≡ field_after separator text ((field_at separator text start).end + 1) (others - 1)
unfolding field_after
field_later separator text start zero some within = absurd (omega arith)
field_later separator text start (suc others) some within =
    let less : suc others - 1 ≡ others = omega arith in
    rw (less, lt-ltb (field_at separator text start).end (length text) within) refl

-- no field comes after one that ends the text
pub field_missing : (separator : ℕ) (text : List ℕ) (start others : ℕ) → 0 < others
    → length text ≤ (field_at separator text start).end
    → field_after separator text start others ≡ None
unfolding field_after
field_missing separator text start zero some ended = absurd (omega arith)
field_missing separator text start (suc others) some ended =
    rw (le-ltb (field_at separator text start).end (length text) ended) refl

-- a field that is sought after no others is the one that begins there
pub field_here : (separator : ℕ) (text : List ℕ) (start others : ℕ) → others ≤ 0
    → field_after separator text start others ≡ Some (field_at separator text start)
unfolding field_after
field_here separator text start zero none = refl
field_here separator text start (suc others) none = absurd (omega arith)
