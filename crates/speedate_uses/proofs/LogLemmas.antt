-- Keys of instants, and what a sort that may fail leaves.
use Rattle.std.proofs.Common.{◌≡◌, ◌∙◌, ◌+◌, ◌<◌, ℕ, ℤ, List, length, reverse, slice_index_or, subst, Result, OnErr, OnOk, Ok, Err, Ordering, Some, ap, arith, false, is_le, is_lt, is_ok, sym, true, true≢false}
use Rattle.std.proofs.lemmas.Cmp.{int_cmp_total, nat_cmp_total, on_total, then_total}
use Rattle.std.proofs.lemmas.List.{get_or_default}
use Rattle.std.proofs.lemmas.List.Sorted.{ranks_by}
use Rattle.std.specs.Cmp.{IsStrictWeakOrder, IsTotalOrder}
use Rattle.std.specs.List.Sorted.{IsSortedByKey, IsStableByKey}
use Rattle.std.specs.Ordering.{int_cmp, is_some_and, nat_cmp, ordering_reverse, ordering_then, partial_ordering_then}
use Rattle.speedate_uses.proofs.FallingLemmas.{Falls, reversed-sorted, reversed-stable}
use Rattle.speedate_uses.specs.Log.{instant_key_order}

pub at-ok : {T E P : Type 0} (result : Result T E) → is_ok result ≡ true → OnOk result P → P
at-ok (Ok value) is known = known
at-ok (Err fault) is known = absurd (true≢false (sym is))

pub at-err : {T E P : Type 0} (result : Result T E) → is_ok result ≡ false → OnErr result P → P
at-err (Ok value) is known = absurd (true≢false is)
at-err (Err fault) is known = known

instant_key_order-total : IsTotalOrder instant_key_order
instant_key_order-total =
    then_total (on_total (λ (key : ℤ × ℕ). key.0) int_cmp_total)
    (on_total (λ (key : ℤ × ℕ). key.1) nat_cmp_total)

not-less : (answer : Ordering) → is_le answer ≡ true → is_lt (ordering_reverse answer) ≡ false
not-less answer is = grind arith

as-order : (second micro : Ordering)
    → true ≡ is_some_and is_le (partial_ordering_then (Some second) (Some micro))
    → is_le (ordering_then second micro) ≡ true
as-order second micro is = grind arith

-- a key that comes after another, or equals it, is not before it
not-before : (key next : ℤ × ℕ)
    → true ≡ is_some_and is_le (partial_ordering_then (Some (int_cmp key.0 next.0))
    (Some (nat_cmp key.1 next.1)))
    → is_lt (instant_key_order next key) ≡ false
not-before key next is =
    ap is_lt (instant_key_order-total.antisymm next key)
    ∙ not-less (instant_key_order key next)
    (as-order (int_cmp key.0 next.0) (nat_cmp key.1 next.1) is)

-- the key of an item that was read
pub key-read : {X : Type 0} (key : X → ℤ × ℕ) (xs : List X) (place : ℕ) (item : X)
    (answer : ℤ × ℕ) → place < length xs → item ≡ slice_index_or xs place item
    → answer ≡ key item → (d : X) → answer ≡ key (slice_index_or xs place d)
key-read key xs place item answer within is known d =
    known ∙ ap key (is ∙ get_or_default xs place item d within)

order-of : {X : Type 0} (key : X → ℤ × ℕ)
    → IsStrictWeakOrder (λ first second. is_lt (instant_key_order (key first) (key second)))
order-of key = ranks_by instant_key_order-total key

-- each item has a key before that of the item before it
abbrev pub KeysFall : {X : Type 0} → (X → ℤ × ℕ) → List X → Type 0
KeysFall key = Falls (λ first second. is_lt (instant_key_order (key first) (key second)))

pub reversed-sorted-by : {X : Type 0} (key : X → ℤ × ℕ) (xs reversed : List X)
    → KeysFall key xs → reversed ≡ reverse xs → IsSortedByKey key instant_key_order reversed
reversed-sorted-by key xs reversed falls is =
    subst (IsSortedByKey key instant_key_order) (sym is)
    (reversed-sorted (λ first second. is_lt (instant_key_order (key first) (key second)))
    (order-of key) xs falls)

pub reversed-stable-by : {X : Type 0} (key : X → ℤ × ℕ) (xs reversed : List X)
    → KeysFall key xs → reversed ≡ reverse xs → IsStableByKey key instant_key_order xs reversed
reversed-stable-by key xs reversed falls is =
    subst (IsStableByKey key instant_key_order xs) (sym is)
    (reversed-stable (λ first second. is_lt (instant_key_order (key first) (key second)))
    (order-of key) xs falls)

-- a list that a sort left as it was is where the next sort starts
pub stable-from : {X : Type 0} (key : X → ℤ × ℕ) (xs start sorted : List X) → start ≡ xs
    → IsStableByKey key instant_key_order start sorted
    → IsStableByKey key instant_key_order xs sorted
stable-from {X} key xs start sorted same stable =
    subst (λ (items : List X). IsStableByKey key instant_key_order items sorted) same stable

-- what `is_sorted_by_key` answers of a list in order
pub sorted-from : {X : Type 0} (key : X → ℤ × ℕ) (xs : List X)
    → ((k : ℕ) (d : X) → k + 1 < length xs
    → true ≡ is_some_and is_le
    (partial_ordering_then (Some (int_cmp (key (slice_index_or xs k d)).0
    (key (slice_index_or xs (k + 1) d)).0))
    (Some (nat_cmp (key (slice_index_or xs k d)).1 (key (slice_index_or xs (k + 1) d)).1))))
    → IsSortedByKey key instant_key_order xs
sorted-from key xs rises k d low within =
    not-before (key (slice_index_or xs k d)) (key (slice_index_or xs (k + 1) d))
    (rises k d within)
