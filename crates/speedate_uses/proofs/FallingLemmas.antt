-- A list of which each item is less than the one before it is sorted if it is turned round.
use Rattle.std.proofs.Common.{◌≡◌, ◌∙◌, ◌++◌, ◌+◌, ◌-◌, ◌<◌, [], ◌∷◌, ℕ, zero, suc, Bool, List, add-one, ap, ap₂, append-nil, arith, false, filter, length, refl, reverse, slice_index_or, sym, true}
use Rattle.std.proofs.lemmas.Grind.{reverse_onto}
use Rattle.std.proofs.lemmas.List.{get_or-reverse, length-reverse}
use Rattle.std.proofs.lemmas.List.Elements.{filter-append}
use Rattle.std.specs.Cmp.{IsStrictWeakOrder}
use Rattle.std.specs.List.{AllAdjacentBelow}
use Rattle.std.specs.List.Sorted.{IsSortedBy, IsStableBy, ties}

-- each item is less than the one before it
abbrev pub Falls : {X : Type 0} → (X → X → Bool) → List X → Type 0
Falls lt xs = AllAdjacentBelow (λ item next. true ≡ lt next item) xs (length xs)

module _ {X : Type 0} (lt : X → X → Bool) (order : IsStrictWeakOrder lt) where
  less-then : (first second third : X) → lt first second ≡ true → lt third second ≡ false
      → lt first third ≡ true
  less-then first second third less least = grind (arith, order.chain first third second)

  rest-falls : (first : X) (rest : List X) → Falls lt (first ∷ rest) → Falls lt rest
  rest-falls first rest falls k d within =
      let less = λ (at : ℕ). lt (slice_index_or (first ∷ rest) at d) (slice_index_or rest k d) in
      let next : suc k + 1 ≡ suc (k + 1) = omega arith in
      falls (suc k) d (omega arith) ∙ ap less next

  below-first : (first : X) (rest : List X) → Falls lt (first ∷ rest) → (k : ℕ) → k < length rest
      → lt (slice_index_or rest k first) first ≡ true
  below-first first rest falls zero within = sym (falls 0 first (omega arith))
  below-first first rest falls (suc k) within =
      let before = slice_index_or rest k first in
      let at = λ (place : ℕ). lt (slice_index_or (first ∷ rest) place first) before in
      let less = sym (falls (suc k) first (omega arith)) in
      let next = ap at (sym (add-one (suc k))) ∙ less in
      let below = order.one_way _ _ (below-first first rest falls k (omega arith)) in
      less-then _ _ first next below

  ties-first : (item other : X) → ties lt item other ≡ true → lt item other ≡ false
  ties-first item other tie = grind arith

  -- what ties with an item does not tie with one that is less
  no-third : (item first next : X) → lt next first ≡ true → ties lt item first ≡ true
      → ties lt item next ≡ false
  no-third item first next less tie = grind (arith, order.chain next item first)

  -- so no item after the first of a list that falls ties with what ties with the first
  no-ties : (item first : X) (rest : List X)
      → ((k : ℕ) → k < length rest → lt (slice_index_or rest k first) first ≡ true)
      → ties lt item first ≡ true → filter (ties lt item) rest ≡ []
  no-ties item first [] below tie = refl
  no-ties item first (next ∷ rest) below tie =
      rw (no-third item first next (below 0 (omega arith)) tie)
      (no-ties item first rest (λ k within. below (suc k) (omega arith)) tie)

  last-kept : (item first : X) (rest : List X)
      → (ties lt item first ≡ true → filter (ties lt item) rest ≡ [])
      → filter (ties lt item) rest ++ filter (ties lt item) (first ∷ [])
      ≡ filter (ties lt item) (first ∷ rest)
  last-kept item first rest alone = grind (arith, append-nil (filter (ties lt item) rest))

  -- no two items tie, so none changes its place beside one that it ties with
  pub reversed-stable : (xs : List X) → Falls lt xs → IsStableBy lt xs (reverse xs)
  reversed-stable [] falls item = refl
  reversed-stable (first ∷ rest) falls item =
      let keeps = filter (ties lt item) in
      let stable = reversed-stable rest (rest-falls first rest falls) item in
      let alone = no-ties item first rest (below-first first rest falls) in
      ap keeps (reverse_onto rest first [])
      ∙ filter-append (ties lt item) (reverse rest) (first ∷ [])
      ∙ ap (λ (items : List X). items ++ keeps (first ∷ [])) stable
      ∙ last-kept item first rest alone

  pub reversed-sorted : (xs : List X) → Falls lt xs → IsSortedBy lt (reverse xs)
  reversed-sorted xs falls k d low within =
      let long : length (reverse xs) ≡ length xs = length-reverse xs in
      let place = length xs - 1 - (k + 1) in
      let next : length xs - 1 - k ≡ place + 1 = omega arith in
      let later = get_or-reverse xs (k + 1) d (omega arith) in
      let before = get_or-reverse xs k d (omega arith) in
      ap₂ lt later (before ∙ ap (λ (at : ℕ). slice_index_or xs at d) next)
      ∙ order.one_way _ _ (sym (falls place d (omega arith)))
