-- The first of the least lines of files in order is the first of all lines in order.
use Rattle.std.proofs.Common.{◌≡◌, ◌∙◌, ap, sym, refl, ℕ, ℤ, map, true, false, List, [], ◌∷◌, ◌++◌, length, get_or, set, arith, append_assoc, append-nil, Option, Some, None, IfSome}
use Rattle.std.specs.Prelude.{int_lt}
use Rattle.std.specs.List.{AllByRecursion as Each}
use Rattle.std.proofs.lemmas.Bool.{cond_both}
use Rattle.std.proofs.lemmas.Int.{ints}
use Rattle.std.proofs.lemmas.List.{length_push}
use Rattle.std.proofs.lemmas.Option.{IfSome_then}
use Rattle.std.proofs.Math.Seq.{get_or-append_seam, set-append_seam}
use Rattle.speedate_sort.specs.Sort.{Keyed, in_order, is_earlier_line, put_in_order, sorted_text}
use Rattle.speedate_sort.specs.Sort.{texts}
use Rattle.speedate_sort.specs.Merge.{AreAllInOrder, AreInOrderAfter, Best, best_from, best_of}
use Rattle.speedate_sort.specs.Merge.{better, due, joined, merged_text, risen, risen_after}
use Rattle.speedate_sort.specs.Merge.{risen_joined}
use Rattle.speedate_sort.proofs.OrderLemmas.{Each-append, Each-in_order, Each-weaker, put-first}
use Rattle.speedate_sort.proofs.OrderLemmas.{put-past}

-- a value is greater than another, or not less
abbrev pub IsAfter : ℤ → ℤ → Type 0
IsAfter instant other = int_lt instant other ≡ true

abbrev pub IsNotBefore : ℤ → ℤ → Type 0
IsNotBefore instant other = int_lt other instant ≡ false

-- something holds of the values of lines
abbrev HaveValues : (ℤ → Type 0) → List Keyed → Type 0
HaveValues P lines = Each (λ line. P line.instant) lines

-- a line that is less than those before it, and not after those that follow it, is the first one
least-first : (before : List Keyed) (x : Keyed) (others : List Keyed)
    → HaveValues (IsAfter x.instant) before → HaveValues (IsNotBefore x.instant) others
    → in_order is_earlier_line (before ++ x ∷ others)
    ≡ x ∷ in_order is_earlier_line (before ++ others)
least-first [] x others first after = put-first is_earlier_line x (in_order is_earlier_line others)
    (Each-in_order is_earlier_line (λ line. IsNotBefore x.instant line.instant) others after)
least-first (b ∷ bs) x others first after =
    ap (put_in_order is_earlier_line b) (least-first bs x others first.1 after)
    ∙ put-past is_earlier_line b (x ∷ []) (in_order is_earlier_line (bs ++ others)) (first.0, tt)

-- Lines up to the first one that is out of order.

-- lines that are in order are all lines up to the first one that is not
risen_after-all : (i : ℤ) (xs : List Keyed) → AreInOrderAfter i xs → risen_after i xs ≡ xs
risen_after-all i [] ordered = refl
risen_after-all i (x ∷ xs) ordered = rw (ordered.0, risen_after-all x.instant xs ordered.1) refl

risen_joined-all : (files : List (List Keyed)) → AreAllInOrder files
    → risen_joined files ≡ joined files
risen_joined-all [] ordered = refl
risen_joined-all ([] ∷ others) ordered = risen_joined-all others ordered.1
risen_joined-all ((x ∷ xs) ∷ others) ordered =
    let own = risen_after-all x.instant xs ordered.0 in
    let rest = risen_joined-all others ordered.1 in
    cc

pub due-all : (files : List (List Keyed)) → AreAllInOrder files → due files ≡ merged_text files
due-all files ordered = ap sorted_text (risen_joined-all files ordered)

-- files, and then others
risen_joined-append : (files others : List (List Keyed))
    → risen_joined (files ++ others) ≡ risen_joined files ++ risen_joined others
risen_joined-append [] others = refl
risen_joined-append (lines ∷ files) others = simp (risen_joined-append files others, append_assoc)

-- the value of the first line of a file
abbrev pub first_instant : List Keyed → Option ℤ
first_instant [] = None
first_instant (x ∷ xs) = Some x.instant

abbrev pub first_instants : List (List Keyed) → List (Option ℤ)
first_instants files = map first_instant files

-- something holds of the value of the first line of a file, if it has one
abbrev pub Begins : (ℤ → Type 0) → List Keyed → Type 0
Begins P lines = IfSome (first_instant lines) P

-- what holds of a value and of each one that is not before it
abbrev IsUpward : (ℤ → Type 0) → Type 0
IsUpward P = (i j : ℤ) → P i → int_lt j i ≡ false → P j

-- what holds of the value before lines holds of those up to the first one that is out of order
risen_after-values : (P : ℤ → Type 0) → IsUpward P → (i : ℤ) (xs : List Keyed) → P i
    → HaveValues P (risen_after i xs)
risen_after-values P up i [] holds = tt
risen_after-values P up i (x ∷ xs) holds = cond_both (int_lt x.instant i) _ _ (HaveValues P)
    (λ less. tt)
    (λ after.
    let next = up i x.instant holds after in
    (next, risen_after-values P up x.instant xs next))

-- what holds of the first line of each file holds of the lines of all
risen_joined-values : (P : ℤ → Type 0) → IsUpward P → (files : List (List Keyed))
    → Each (Begins P) files → HaveValues P (risen_joined files)
risen_joined-values P up [] begin = tt
risen_joined-values P up ([] ∷ others) begin = risen_joined-values P up others begin.1
risen_joined-values P up ((x ∷ xs) ∷ others) begin = (
  begin.0,
  Each-append (λ line. P line.instant) (risen_after x.instant xs) (risen_joined others)
      (risen_after-values P up x.instant xs begin.0) (risen_joined-values P up others begin.1),
)

-- The best of files.

-- the file at an index begins with a line of a value, which is less than those with which the files
-- before it begin, and not after those with which the files that follow do
pub record IsFirst (index : ℕ) (instant : ℤ) (files : List (List Keyed)) : Type 0 where
  pub line : Keyed
  pub rest : List Keyed
  pub before : List (List Keyed)
  pub others : List (List Keyed)
  pub whole : files ≡ before ++ (line ∷ rest) ∷ others
  pub place : length before ≡ index
  pub value : line.instant ≡ instant
  pub less : Each (Begins (IsAfter line.instant)) before
  pub after : Each (Begins (IsNotBefore line.instant)) others

-- the best of files is that one; if there is none, no file has a line
abbrev IsBest : Option Best → List (List Keyed) → Type 0
IsBest None files = Each (λ lines. lines ≡ []) files
IsBest (Some best) files = IsFirst best.index best.instant files

-- a further file does not begin before the best one
best-stays : (index : ℕ) (i : ℤ) (files : List (List Keyed)) (lines : List Keyed)
    → IsFirst index i files → Begins (IsNotBefore i) lines → IsFirst index i (files ++ lines ∷ [])
best-stays index i files lines first after = record {
  line = first.line;
  rest = first.rest;
  before = first.before;
  others = first.others ++ lines ∷ [];
  whole = rw first.whole
      (append_assoc first.before ((first.line ∷ first.rest) ∷ first.others) (lines ∷ []));
  place = first.place;
  value = first.value;
  less = first.less;
  after = Each-append (Begins (IsNotBefore first.line.instant)) first.others (lines ∷ [])
      first.after (rw first.value after, tt);
}

-- a further file begins before all others
best-new : (x : Keyed) (xs : List Keyed) (files : List (List Keyed))
    → Each (Begins (IsAfter x.instant)) files
    → IsFirst (length files) x.instant (files ++ (x ∷ xs) ∷ [])
best-new x xs files less = record {
  line = x;
  rest = xs;
  before = files;
  others = [];
  whole = refl;
  place = refl;
  value = refl;
  less = less;
  after = tt;
}

-- what follows from what holds of the first lines holds of them
begin-weaker : (P Q : ℤ → Type 0) → ((k : ℤ) → P k → Q k) → (files : List (List Keyed))
    → Each (Begins P) files → Each (Begins Q) files
begin-weaker P Q follows files begin = Each-weaker (Begins P) (Begins Q)
    (λ lines begins. IfSome_then (first_instant lines) begins follows) files begin

-- what is less than the value of the best of files is less than all with which they begin
best-less : (index : ℕ) (i j : ℤ) (files : List (List Keyed)) → IsFirst index i files
    → int_lt j i ≡ true → Each (Begins (IsAfter j)) files
best-less index i j files first less =
    let before : int_lt j first.line.instant ≡ true = rw first.value less in
    rw first.whole
    (Each-append (Begins (IsAfter j)) first.before ((first.line ∷ first.rest) ∷ first.others)
    (begin-weaker (IsAfter first.line.instant) (IsAfter j) (λ k after. grind (arith, ints))
    first.before first.less) (
      before,
      begin-weaker (IsNotBefore first.line.instant) (IsAfter j)
          (λ k after. grind (arith, ints)) first.others first.after,
    ))

-- the best of files and of a further one
best-step : (before : Option Best) (files : List (List Keyed)) (lines : List Keyed)
    → IsBest before files
    → IsBest (better before (length files) (first_instant lines)) (files ++ lines ∷ [])
best-step None files [] is = Each-append (λ lines. lines ≡ []) files ([] ∷ []) is (refl, tt)
best-step None files (x ∷ xs) is = best-new x xs files
    (Each-weaker (λ lines. lines ≡ []) (Begins (IsAfter x.instant)) (λ lines none. rw none tt)
    files is)
best-step (Some best) files [] is = best-stays best.index best.instant files [] is tt
best-step (Some best) files (x ∷ xs) is = cond_both (int_lt x.instant best.instant) _ _
    (λ found. IsBest found (files ++ (x ∷ xs) ∷ []))
    (λ less. best-new x xs files (best-less best.index best.instant x.instant files is less))
    (λ after. best-stays best.index best.instant files (x ∷ xs) is after)

-- the best of files and of all that follow
best-from : (before : Option Best) (files others : List (List Keyed)) → IsBest before files
    → IsBest (best_from before (length files) (first_instants others)) (files ++ others)
best-from before files [] is = rw (append-nil files) is
best-from before files (lines ∷ others) is =
    rw (append_assoc files (lines ∷ []) others, length_push files lines) at
    (best-from (better before (length files) (first_instant lines)) (files ++ lines ∷ []) others
    (best-step before files lines is))

-- files without lines
none-left : (files : List (List Keyed)) → Each (λ lines. lines ≡ []) files
    → (risen_joined files ≡ []) × AreAllInOrder files
none-left [] none = (refl, tt)
none-left ([] ∷ others) none = let rest = none-left others none.1 in (rest.0, (tt, rest.1))
none-left ((x ∷ xs) ∷ others) none = let clash = none.0 in cc

-- nothing is left to be printed
pub due-none : (files : List (List Keyed)) → best_of (first_instants files) ≡ None
    → (due files ≡ []) × AreAllInOrder files
due-none files is =
    let none = none-left files (rw is at (best-from None [] files tt)) in
    (ap sorted_text none.0, none.1)

-- the best of files begins with the first of the least lines
pub best-is_first : (best : Best) (files : List (List Keyed))
    → best_of (first_instants files) ≡ Some best → IsFirst best.index best.instant files
best-is_first best files is = rw is at (best-from None [] files tt)

-- what begins not before a value goes on with what is in order after it
risen_after-risen : (i : ℤ) (xs : List Keyed) → Begins (IsNotBefore i) xs
    → risen_after i xs ≡ risen xs
risen_after-risen i [] begins = refl
risen_after-risen i (x ∷ xs) begins = rw begins refl

-- lines up to the first one that is out of order are in order
risen_after-twice : (i : ℤ) (xs : List Keyed) → risen_after i (risen_after i xs) ≡ risen_after i xs
risen_after-twice i [] = refl
risen_after-twice i (x ∷ xs) = cond_both (int_lt x.instant i) _ _
    (λ l. risen_after i l ≡ l)
    (λ less. refl)
    (λ after. rw (after, risen_after-twice x.instant xs) refl)

risen-risen_after : (i : ℤ) (xs : List Keyed) → risen (risen_after i xs) ≡ risen_after i xs
risen-risen_after i [] = refl
risen-risen_after i (x ∷ xs) = cond_both (int_lt x.instant i) _ _
    (λ l. risen l ≡ l)
    (λ less. refl)
    (λ after. rw (risen_after-twice x.instant xs) refl)

-- files are in order if they are after the first line of one was printed
in_order-step : (before others : List (List Keyed)) (x : Keyed) (left : List Keyed)
    → Begins (IsNotBefore x.instant) left → AreAllInOrder (before ++ left ∷ others)
    → AreAllInOrder (before ++ (x ∷ left) ∷ others)
in_order-step [] others x [] begins ordered = ordered
in_order-step [] others x (y ∷ ys) begins ordered = ((begins, ordered.0), ordered.1)
in_order-step (lines ∷ before) others x left begins ordered =
    (ordered.0, in_order-step before others x left begins ordered.1)

-- The line of the best file is the first one of all.
module _ (index : ℕ) (i : ℤ) (files : List (List Keyed)) (first : IsFirst index i files) where
  -- it begins its file
  pub file-first : get_or files index [] ≡ first.line ∷ first.rest
  file-first =
      rw (first.whole, ← first.place)
      (get_or-append_seam first.before (first.line ∷ first.rest) first.others [])

  due-first : due files
      ≡ first.line.text ++ sorted_text (risen_joined first.before
      ++ (risen_after first.line.instant first.rest ++ risen_joined first.others))
  due-first =
      let i : ℤ = first.line.instant in
      let own : List (List Keyed) = (first.line ∷ first.rest) ∷ first.others in
      let itself : IsNotBefore i i = grind (arith, ints) in
      let less = risen_joined-values (IsAfter i) (λ j k holds after. grind (arith, ints))
      first.before first.less in
      let after = risen_joined-values (IsNotBefore i) (λ j k holds later. grind (arith, ints))
      own (itself, first.after) in
      ap due first.whole ∙ ap sorted_text (risen_joined-append first.before own)
      ∙ ap texts (least-first (risen_joined first.before) first.line
      (risen_after i first.rest ++ risen_joined first.others) less after.1)

  -- another file in its place
  file-set : (own : List Keyed) → set files index own ≡ first.before ++ own ∷ first.others
  file-set own =
      rw (first.whole, ← first.place)
      (set-append_seam first.before (first.line ∷ first.rest) first.others own)

  -- it is printed first, and then what is left
  pub due-line : (own : List Keyed) × (due files ≡ first.line.text ++ due (set files index own))
  due-line =
      let own = risen_after first.line.instant first.rest in (
        own,
        due-first ∙ ap (λ (l : List Keyed). first.line.text ++ sorted_text l) (sym
            (ap risen_joined (file-set own)
            ∙ risen_joined-append first.before (own ∷ first.others)
            ∙ ap (λ (l : List Keyed). risen_joined first.before ++ (l ++ risen_joined first.others))
            (risen-risen_after first.line.instant first.rest))),
      )

  -- then come the other lines, if those of its file go on in order
  pub due-step : (left : List Keyed) → first.rest ≡ left
      → Begins (IsNotBefore first.line.instant) left
      → (due files ≡ first.line.text ++ due (set files index left))
      × (AreAllInOrder (set files index left) → AreAllInOrder files)
  due-step left same begins =
      let before : List Keyed = risen_joined first.before in
      let others : List Keyed = risen_joined first.others in
      let next : risen_after first.line.instant first.rest ≡ risen left =
      rw same (risen_after-risen first.line.instant left begins) in
      rw (file-set left) (
        due-first ∙ ap (λ (l : List Keyed). first.line.text ++ sorted_text l)
            (ap (λ (l : List Keyed). before ++ (l ++ others)) next
            ∙ sym (risen_joined-append first.before (left ∷ first.others))),
        λ ordered. rw (first.whole, same)
            (in_order-step first.before first.others first.line left begins ordered),
      )
