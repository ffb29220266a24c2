-- What is read of items, one after another, is in order up to an item.
use Rattle.std.proofs.Common.{◌≡◌, ℕ, ◌+◌, ◌-◌, ◌<◌, ◌≤◌, Bool, true, false, List, arith, ap, inl, inr, length, slice_index_or, sym, ◌∙◌}
use Rattle.std.proofs.lemmas.Bool.{cases_lt}

-- the fronts before a place are in order, and the last of them is known
pub record IsReadUpTo {X F : Type 0} (front : X → F) (test : F → F → Bool) (lines : List X)
    (latest : F) (place : ℕ) : Type 0 where
  pub last : (k : ℕ) (d : X) → k + 1 ≡ place → latest ≡ front (slice_index_or lines k d)
  pub before : (k : ℕ) (d : X) → k + 1 < place
      → test (front (slice_index_or lines k d)) (front (slice_index_or lines (k + 1) d)) ≡ true

pub read-first : {X F : Type 0} (front : X → F) (test : F → F → Bool) (lines : List X) (last : F)
    → ((d : X) → last ≡ front (slice_index_or lines 0 d)) → IsReadUpTo front test lines last 1
read-first front test lines last is = record {
  last = λ k d same. let none : k ≡ 0 = omega arith in rw none (is d);
  before = λ k d less. absurd (omega arith);
}

pub read-next : {X F : Type 0} (front : X → F) (test : F → F → Bool) (lines : List X)
    (last next : F) (place : ℕ) → IsReadUpTo front test lines last place
    → ((d : X) → next ≡ front (slice_index_or lines place d)) → test last next ≡ true
    → IsReadUpTo front test lines next (place + 1)
read-next front test lines last next place read is after = record {
  last = λ k d same. let there : k ≡ place = omega arith in rw there (is d);
  before = λ k d less. elim (cases_lt (k + 1) place) [
    | inl earlier ↦ read.before k d earlier
    | inr later ↦
        let there : k + 1 ≡ place = omega arith in
        ap (λ first. test first (front (slice_index_or lines (k + 1) d)))
        (sym (read.last k d there))
        ∙ ap (test last) (sym (rw there (is d))) ∙ after
  ];
}

pub read-all : {X F : Type 0} (front : X → F) (test : F → F → Bool) (lines : List X) (last : F)
    (place : ℕ) → IsReadUpTo front test lines last place → length lines ≤ place
    → (k : ℕ) (d : X)
    → k + 1 < length lines
    → true ≡ test (front (slice_index_or lines k d)) (front (slice_index_or lines (k + 1) d))
read-all front test lines last place read end k d within = sym (read.before k d (omega arith))

pub read-stopped : {X F : Type 0} (front : X → F) (test : F → F → Bool) (lines : List X)
    (last next : F) (place : ℕ) → IsReadUpTo front test lines last place → 1 ≤ place
    → place < length lines → ((d : X) → next ≡ front (slice_index_or lines place d))
    → test last next ≡ false
    → (k : ℕ) × (k + 1 < length lines) × ((d : X)
    → false ≡ test (front (slice_index_or lines k d)) (front (slice_index_or lines (k + 1) d)))
read-stopped front test lines last next place read some within is stops =
    let there : place - 1 + 1 ≡ place = omega arith in (
      place - 1,
      omega arith,
      λ d. sym (ap (λ first. test first (front (slice_index_or lines (place - 1 + 1) d)))
          (sym (read.last (place - 1) d there))
          ∙ ap (test last) (sym (rw there (is d))) ∙ stops),
    )
