-- A stable sort is the list in order.
use Rattle.std.proofs.Common.{◌≡◌, ◌∙◌, ap, sym, refl, ℕ, ℤ, suc, ◌<◌, ◌≤◌, Bool, true, false, List, [], ◌∷◌, ◌++◌, length, get_or, arith, map, if◌then◌else◌, Less, Equal, Greater}
use Rattle.std.specs.Prelude.{int_lt}
use Rattle.std.specs.Cmp.{IsStrictWeakOrder}
use Rattle.std.specs.List.{AllByRecursion as Each, filter}
use Rattle.std.specs.List.Sorted.{IsSortedBy, IsSortedByKey, IsStableBy, IsStableByKey, ties}
use Rattle.std.specs.Ordering.{int_cmp, is_lt}
use Rattle.std.proofs.lemmas.Cmp.{int_cmp_total}
use Rattle.std.proofs.lemmas.Bool.{cond_both}
use Rattle.std.proofs.lemmas.Int.{ints}
use Rattle.std.proofs.lemmas.List.Elements.{recursion_from_All}
use Rattle.std.proofs.lemmas.List.Sorted.{ranks_by, sorted_far}
use Rattle.speedate_sort.specs.Sort.{in_order, put_in_order}

-- What holds of each element of a list.

module _ {X : Type 0} (P : X → Type 0) where
  pub Each-append : (xs ys : List X) → Each P xs → Each P ys → Each P (xs ++ ys)
  Each-append [] ys first second = second
  Each-append (x ∷ xs) ys first second = (first.0, Each-append xs ys first.1 second)

  pub Each-weaker : (Q : X → Type 0) → ((x : X) → P x → Q x) → (xs : List X) → Each P xs
      → Each Q xs
  Each-weaker Q follows [] each = tt
  Each-weaker Q follows (x ∷ xs) each =
      (follows x each.0, Each-weaker Q follows xs each.1)

-- Where an element is put.

module _ {X : Type 0} (lt : X → X → Bool) where
  -- it passes those that are less
  pub put-past : (x : X) (xs ys : List X) → Each (λ y. lt y x ≡ true) xs
      → put_in_order lt x (xs ++ ys) ≡ xs ++ put_in_order lt x ys
  put-past x [] ys less = refl
  put-past x (y ∷ xs) ys less =
      rw less.0 (ap (λ (l : List X). y ∷ l) (put-past x xs ys less.1))

  -- it stays before those that are not less
  pub put-first : (x : X) (ys : List X) → Each (λ y. lt y x ≡ false) ys
      → put_in_order lt x ys ≡ x ∷ ys
  put-first x [] after = refl
  put-first x (y ∷ ys) after = rw after.0 refl

  -- what holds of each element of a list holds of each one in order
  Each-put : (P : X → Type 0) (x : X) (ys : List X) → P x → Each P ys
      → Each P (put_in_order lt x ys)
  Each-put P x [] first each = (first, tt)
  Each-put P x (y ∷ ys) first each = cond_both (lt y x) _ _ (Each P)
      (λ less. (each.0, Each-put P x ys first each.1))
      (λ after. (first, each))

  pub Each-in_order : (P : X → Type 0) (xs : List X) → Each P xs → Each P (in_order lt xs)
  Each-in_order P [] each = tt
  Each-in_order P (x ∷ xs) each =
      Each-put P x (in_order lt xs) each.0 (Each-in_order P xs each.1)

  -- no element is less than one before it
  abbrev pub Rises : List X → Type 0
  Rises [] = Unit {0}
  Rises (x ∷ xs) = Each (λ y. lt y x ≡ false) xs × Rises xs

-- A list in order rises, and has the elements that tie as they came. One list does so.
module _ {X : Type 0} (lt : X → X → Bool) (o : IsStrictWeakOrder lt) where
  not_less : (x : X) → lt x x ≡ false
  not_less x = grind (arith, o.one_way x x)

  abbrev NotBefore : X → X → Type 0
  NotBefore x y = lt y x ≡ false

  -- a list that rises still does with one more element in order
  Rises-put : (x : X) (ys : List X) → Rises lt ys → Rises lt (put_in_order lt x ys)
  Rises-put x [] rises = (tt, tt)
  Rises-put x (y ∷ ys) rises = cond_both (lt y x) _ _ (Rises lt)
      (λ less. (
        Each-put lt (NotBefore y) x ys (o.one_way y x less) rises.0,
        Rises-put x ys rises.1,
      ))
      (λ after.
      let later = Each-weaker (NotBefore y) (NotBefore x)
      (λ z not_less. o.chain z y x not_less after) ys rises.0 in
      ((after, later), rises))

  pub Rises-in_order : (xs : List X) → Rises lt (in_order lt xs)
  Rises-in_order [] = tt
  Rises-in_order (x ∷ xs) = Rises-put x (in_order lt xs) (Rises-in_order xs)

  -- a list rises if none of two elements is less than the one before it
  Rises-from_far : (ys : List X)
      → ((i j : ℕ) (d : X) → i ≤ j → j < length ys → lt (get_or ys j d) (get_or ys i d) ≡ false)
      → Rises lt ys
  Rises-from_far [] far = tt
  Rises-from_far (y ∷ ys) far = (
    recursion_from_All (NotBefore y) ys
        (λ j d below. far 0 (suc j) d (omega arith) (omega arith)),
    Rises-from_far ys (λ i j d before below. far (suc i) (suc j) d (omega arith) (omega arith)),
  )

  -- those that tie with an element stay in their order
  filter-put : (a x : X) (ys : List X)
      → filter (ties lt a) (put_in_order lt x ys) ≡ filter (ties lt a) (x ∷ ys)
  filter-put a x [] = refl
  filter-put a x (y ∷ ys) = cond_both (lt y x) _ _
      (λ l. filter (ties lt a) l ≡ filter (ties lt a) (x ∷ y ∷ ys))
      (λ less. rw (filter-put a x ys) (grind (arith, o.chain y a x)))
      (λ after. refl)

  filter-in_order : (a : X) (xs : List X)
      → filter (ties lt a) (in_order lt xs) ≡ filter (ties lt a) xs
  filter-in_order a [] = refl
  filter-in_order a (x ∷ xs) =
      filter-put a x (in_order lt xs)
      ∙ ap (λ (l : List X). if ties lt a x then x ∷ l else l) (filter-in_order a xs)

  -- an element that ties with one of a list is not before what none of the list is before
  found-not_before : (x y : X) (zs : List X) (w : X) (ws : List X) → Each (NotBefore x) zs
      → filter (ties lt y) zs ≡ w ∷ ws → lt y x ≡ false
  found-not_before x y [] w ws each is = cc
  found-not_before x y (z ∷ zs) w ws each is =
      grind (arith, o.chain y z x, found-not_before x y zs w ws each.1)

  first_found : (x : X) (xs : List X)
      → filter (ties lt x) (x ∷ xs) ≡ x ∷ filter (ties lt x) xs
  first_found x xs = grind (arith, not_less x)

  -- lists that rise, and have those that tie in one order, are the same
  same_from_ties : (ys zs : List X) → Rises lt ys → Rises lt zs
      → ((a : X) → filter (ties lt a) ys ≡ filter (ties lt a) zs) → ys ≡ zs
  same_from_ties [] [] left right same = refl
  same_from_ties [] (z ∷ zs) left right same = let clash = same z ∙ first_found z zs in cc
  same_from_ties (y ∷ ys) [] left right same = let clash = sym (same y) ∙ first_found y ys in cc
  same_from_ties (y ∷ ys) (z ∷ zs) left right same =
      let at_y = sym (same y) ∙ first_found y ys in
      let at_z = same z ∙ first_found z zs in
      let up = found-not_before z y (z ∷ zs) y _ (not_less z, right.0) at_y in
      let down = found-not_before y z (y ∷ ys) z _ (not_less y, left.0) at_z in
      let head : y ≡ z = grind arith in
      let tails = same_from_ties ys zs left.1 right.1
      (λ a. let both = rw head at (same a) in grind arith) in
      cc

  -- a stable sort gives the list in order
  pub in_order-from_sort : (xs ys : List X) → IsSortedBy lt ys → IsStableBy lt xs ys
      → ys ≡ in_order lt xs
  in_order-from_sort xs ys sorted stable =
      same_from_ties ys (in_order lt xs) (Rises-from_far ys (sorted_far lt o ys sorted))
      (Rises-in_order xs) (λ a. stable a ∙ sym (filter-in_order a xs))

-- a function of the elements that keeps their order
module _ {X Y : Type 0} (f : X → Y) (lt : Y → Y → Bool) where
  abbrev on_first : X → X → Bool
  on_first a b = lt (f a) (f b)

  map-put : (x : X) (ys : List X)
      → map f (put_in_order on_first x ys) ≡ put_in_order lt (f x) (map f ys)
  map-put x [] = refl
  map-put x (y ∷ ys) = grind (arith, map-put x ys)

  pub map-in_order : (xs : List X) → map f (in_order on_first xs) ≡ in_order lt (map f xs)
  map-in_order [] = refl
  map-in_order (x ∷ xs) =
      map-put x (in_order on_first xs)
      ∙ ap (put_in_order lt (f x)) (map-in_order xs)

less_by_tests : (less more : Bool)
    → is_lt (if less then Less else if more then Greater else Equal) ≡ less
less_by_tests less more = grind arith

-- the order of integer keys is that of their tests
same_tests : {X : Type 0} (key : X → ℤ)
    → ◌≡◌ {A = X → X → Bool} (λ a b. is_lt (int_cmp (key a) (key b)))
    (λ a b. int_lt (key a) (key b))
same_tests key = λ i a b. less_by_tests (int_lt (key a) (key b)) (int_lt (key b) (key a)) i

-- what `sort_by_key` leaves is in order by the keys
pub in_order-from_sort_by_key : {X : Type 0} (key : X → ℤ) (xs ys : List X)
    → IsSortedByKey key int_cmp ys → IsStableByKey key int_cmp xs ys
    → ys ≡ in_order (λ a b. int_lt (key a) (key b)) xs
in_order-from_sort_by_key {X = X} key xs ys sorted stable =
    in_order-from_sort (λ a b. is_lt (int_cmp (key a) (key b))) (ranks_by int_cmp_total key) xs ys
    sorted stable
    ∙ ap (λ (lt : X → X → Bool). in_order lt xs) (same_tests key)

-- a list in order by integer keys rises
pub Rises-by_key : {X : Type 0} (key : X → ℤ) (xs : List X)
    → Rises (λ a b. int_lt (key a) (key b)) (in_order (λ a b. int_lt (key a) (key b)) xs)
Rises-by_key key xs = rw (same_tests key) at (Rises-in_order
    (λ a b. is_lt (int_cmp (key a) (key b))) (ranks_by int_cmp_total key) xs)

-- Blocks of elements of one key stay whole.
module _ {E K : Type 0} (of_block : E → ℤ) (of : K → ℤ) (block : E → List K) where
  abbrev pub earlier_block : E → E → Bool
  earlier_block a b = int_lt (of_block a) (of_block b)

  abbrev pub earlier : K → K → Bool
  earlier a b = int_lt (of a) (of b)

  abbrev pub blocks : List E → List K
  blocks [] = []
  blocks (e ∷ es) = block e ++ blocks es

  abbrev pub HasKey : ℤ → K → Type 0
  HasKey key x = of x ≡ key

  abbrev IsNotBefore : ℤ → K → Type 0
  IsNotBefore key x = int_lt (of x) key ≡ false

  abbrev IsBefore : ℤ → K → Type 0
  IsBefore key x = int_lt (of x) key ≡ true

  abbrev put_all : List K → List K → List K
  put_all [] ys = ys
  put_all (x ∷ xs) ys = put_in_order earlier x (put_all xs ys)

  -- elements of one key pass those before them
  all_past : (key : ℤ) (bs xs ys : List K) → Each (HasKey key) bs → Each (IsBefore key) xs
      → put_all bs (xs ++ ys) ≡ xs ++ put_all bs ys
  all_past key [] xs ys have less = refl
  all_past key (b ∷ bs) xs ys have less =
      ap (put_in_order earlier b) (all_past key bs xs ys have.1 less)
      ∙ put-past earlier b xs (put_all bs ys) (rw have.0 less)

  -- they stay before those that are not
  all_stay : (key : ℤ) (bs ys : List K) → Each (HasKey key) bs → Each (IsNotBefore key) ys
      → put_all bs ys ≡ bs ++ ys
  all_stay key [] ys have after = refl
  all_stay key (b ∷ bs) ys have after =
      let equal = Each-weaker (HasKey key) (IsNotBefore key) (λ x same. grind (arith, ints)) bs
      have.1 in
      ap (put_in_order earlier b) (all_stay key bs ys have.1 after)
      ∙ put-first earlier b (bs ++ ys)
      (rw have.0 (Each-append (IsNotBefore key) bs ys equal after))

  module _ (keyed : (e : E) → Each (HasKey (of_block e)) (block e)) where
    -- blocks that are not before a key
    blocks-after : (key : ℤ) (es : List E) → Each (λ e. int_lt (of_block e) key ≡ false) es
        → Each (IsNotBefore key) (blocks es)
    blocks-after key [] after = tt
    blocks-after key (e ∷ es) after =
        Each-append (IsNotBefore key) (block e) (blocks es)
        (Each-weaker (HasKey (of_block e)) (IsNotBefore key)
        (λ x same. rw same after.0) (block e) (keyed e))
        (blocks-after key es after.1)

    -- a block among blocks that rise
    put_block : (e : E) (es : List E) → Rises earlier_block es
        → put_all (block e) (blocks es) ≡ blocks (put_in_order earlier_block e es)
    put_block e [] rises = all_stay (of_block e) (block e) [] (keyed e) tt
    put_block e (f ∷ es) rises = cond_both (earlier_block f e) _ _
        (λ l. put_all (block e) (blocks (f ∷ es)) ≡ blocks l)
        (λ less.
        all_past (of_block e) (block e) (block f) (blocks es) (keyed e)
        (Each-weaker (HasKey (of_block f)) (IsBefore (of_block e))
        (λ x same. rw same less) (block f) (keyed f))
        ∙ ap (λ (l : List K). block f ++ l) (put_block e es rises.1))
        (λ after.
        let later = Each-weaker (λ g. int_lt (of_block g) (of_block f) ≡ false)
        (λ g. int_lt (of_block g) (of_block e) ≡ false) (λ g not_less. grind (arith, ints)) es
        rises.0 in
        all_stay (of_block e) (block e) (blocks (f ∷ es)) (keyed e)
        (blocks-after (of_block e) (f ∷ es) (after, later)))

    -- elements are put into order one by one
    in_order-append : (bs ys : List K)
        → in_order earlier (bs ++ ys) ≡ put_all bs (in_order earlier ys)
    in_order-append [] ys = refl
    in_order-append (b ∷ bs) ys = ap (put_in_order earlier b) (in_order-append bs ys)

    -- blocks in order are the elements in order
    pub blocks-in_order : (es : List E)
        → in_order earlier (blocks es) ≡ blocks (in_order earlier_block es)
    blocks-in_order [] = refl
    blocks-in_order (e ∷ es) =
        in_order-append (block e) (blocks es)
        ∙ ap (put_all (block e)) (blocks-in_order es)
        ∙ put_block e (in_order earlier_block es) (Rises-by_key of_block es)
