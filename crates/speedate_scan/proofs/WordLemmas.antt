-- The first place at which a word stands in a text.
use Rattle.std.proofs.Common.{◌≡◌, ◌∙◌, ℕ, zero, suc, ◌+◌, ◌-◌, ◌<◌, ◌≤◌, ◌==◌, List, [], ◌∷◌, length, take, drop, map, min, cond, w64, ◌^◌, Bool, true, false, Option, Some, None, refl, ap, sym, add-one, arith, rules, get_or, drop-cons}
use Rattle.std.specs.Int.{bit_at}
use Rattle.std.specs.Int.Bits.{bit_and}
use Rattle.std.specs.Int.Count.{count_trailing_zeros}
use Rattle.std.specs.Simd.Lanes.{mask_l}
use Rattle.std.proofs.lemmas.List.{drop-drop, drop_all, get_or-map, get_or-take}
use Rattle.std.proofs.lemmas.List.{length-drop, length-take-le, take_rest}
use Rattle.std.proofs.lemmas.Grind.{get_or_after_one}
use Rattle.std.proofs.lemmas.Simd.{bit_mask_l}
use Rattle.std.proofs.lemmas.Nat.Bits.{bit_at_and, bit_at-trailing_zeros, bit_at-zero}
use Rattle.speedate_scan.specs.Reading.{Wanted, begins_claim, claim_after, moved_place}
use Rattle.speedate.specs.Loose.{begins_with}

-- no place before a byte of a text is the word's, so that what is found is found from there on
pub record IsSearchedUpTo (wanted : Wanted) (word text : List ℕ) (place : ℕ) : Type 0 where
  pub within : place ≤ length text
  pub found : claim_after wanted word text
      ≡ moved_place place (claim_after wanted word (drop place text))

-- at the front of a text nothing was passed
pub nothing_passed : (found : Option ℕ) → found ≡ moved_place 0 found
nothing_passed None = refl
nothing_passed (Some p) = ap Some (omega arith)

-- a search begins at the front
pub search_begins : (wanted : Wanted) (word text : List ℕ) → IsSearchedUpTo wanted word text 0
search_begins wanted word text =
    record { within = omega arith; found = nothing_passed (claim_after wanted word text) }

-- what was moved is moved further
place_after : (one other : ℕ) (found : Option ℕ)
    → moved_place one (moved_place other found) ≡ moved_place (one + other) found
place_after one other None = refl
place_after one other (Some p) = ap Some (omega arith)

-- a word that begins a text ends after itself
word_here : (wanted : Wanted) (word text bytes : List ℕ) (byte : ℕ) → text ≡ (byte ∷ bytes)
    → begins_claim wanted word text ≡ true → claim_after wanted word text ≡ Some (length word)
unfolding claim_after
word_here wanted word [] bytes byte parts here = cc
word_here wanted word (first ∷ rest) bytes byte parts here = rw here refl

-- a word that does not begin a text is looked for from its next byte on
word_later : (wanted : Wanted) (word text bytes : List ℕ) (byte : ℕ) → text ≡ (byte ∷ bytes)
    → begins_claim wanted word text ≡ false
    → claim_after wanted word text ≡ moved_place 1 (claim_after wanted word bytes)
unfolding claim_after
word_later wanted word [] bytes byte parts later = cc
word_later wanted word (first ∷ rest) bytes byte parts later =
    let same : rest ≡ bytes = cc in
    rw later (ap (λ (l : List ℕ). moved_place 1 (claim_after wanted word l)) same)

-- the bytes of a text from a byte on
pub parts_at : (text : List ℕ) (place : ℕ) → place < length text
    → drop place text ≡ (get_or text place 0 ∷ drop (place + 1) text)
parts_at text place within = drop-cons text place 0 within ∙ rw add-one refl

-- a search ends where the word begins
pub search_ends : (wanted : Wanted) (word text : List ℕ) (place : ℕ)
    → IsSearchedUpTo wanted word text place → place < length text
    → begins_claim wanted word (take (length text - place) (drop place text)) ≡ true
    → Some (place + length word) ≡ claim_after wanted word text
search_ends wanted word text place searched within front_is =
    let here : begins_claim wanted word (drop place text) ≡ true = rw take_rest at front_is in
    sym (searched.found ∙ ap (moved_place place)
    (word_here wanted word (drop place text) _ _ (parts_at text place within) here))

-- a search goes on where the word does not begin
pub search_goes_on : (wanted : Wanted) (word text : List ℕ) (place : ℕ)
    → IsSearchedUpTo wanted word text place → place < length text
    → begins_claim wanted word (take (length text - place) (drop place text)) ≡ false
    → IsSearchedUpTo wanted word text (place + 1)
search_goes_on wanted word text place searched within front_is_not =
    let later : begins_claim wanted word (drop place text) ≡ false = rw take_rest at front_is_not in
    let next = word_later wanted word (drop place text) _ _ (parts_at text place within) later in
    record {
      within = omega arith;
      found = searched.found ∙ ap (moved_place place) next
          ∙ place_after place 1 (claim_after wanted word (drop (place + 1) text));
    }

nothing_at_end : (wanted : Wanted) (word : List ℕ) → claim_after wanted word [] ≡ None
unfolding claim_after
nothing_at_end wanted word = refl

-- a search that comes to the end finds nothing
pub search_fails : (wanted : Wanted) (word text : List ℕ) (place : ℕ)
    → IsSearchedUpTo wanted word text place
    → length text ≤ place → None ≡ claim_after wanted word text
search_fails wanted word text place searched ended =
    sym (searched.found ∙ ap (λ (l : List ℕ). moved_place place (claim_after wanted word l))
    (drop_all place text ended) ∙ ap (moved_place place) (nothing_at_end wanted word))

no_claim : (wanted : Wanted) (word text : List ℕ) → begins_with word text ≡ false
    → begins_claim wanted word text ≡ false
no_claim wanted word text other = rw other refl

one_byte_further : (place : ℕ) (found : Option ℕ)
    → moved_place 1 (moved_place place found) ≡ moved_place (suc place) found
one_byte_further place None = refl
one_byte_further place (Some p) = ap Some (omega arith)

-- a search passes places at which the word does not begin
pub search_passes : (wanted : Wanted) (word text : List ℕ) (count : ℕ) → count ≤ length text
    → ((k : ℕ) → k < count → begins_with word (drop k text) ≡ false)
    → claim_after wanted word text ≡ moved_place count (claim_after wanted word (drop count text))
search_passes wanted word text zero short others = nothing_passed (claim_after wanted word text)
search_passes wanted word [] (suc count) short others = absurd (omega arith)
search_passes wanted word (byte ∷ bytes) (suc count) short others =
    let later = search_passes wanted word bytes count (omega arith)
    (λ (k : ℕ) (less : k < count). others (suc k) (omega arith)) in
    word_later wanted word (byte ∷ bytes) bytes byte refl
    (no_claim wanted word (byte ∷ bytes) (others 0 (omega arith)))
    ∙ ap (moved_place 1) later
    ∙ one_byte_further count (claim_after wanted word (drop count bytes))

not_set : (test : Bool) (bit : ℕ) → bit ≡ cond test 1 0 → bit ≡ 0 → test ≡ false
not_set true bit is none = absurd (omega (arith, is, none))
not_set false bit is none = refl

-- a byte of a text that is not marked is another
pub other_byte : (byte : ℕ) (text : List ℕ) (k : ℕ) → k < 16 → 16 ≤ length text
    → bit_at (mask_l (map (λ (lane : ℕ). lane == byte) (take 16 text))) k ≡ 0
    → (get_or text k 0 == byte) ≡ false
other_byte byte text k within long unmarked =
    let test : ℕ → Bool = λ lane. lane == byte in
    let lanes = take 16 text in
    let lane = get_or-map test lanes k 0 false (omega (arith, length-take-le 16 text long)) in
    sym (ap test (get_or-take 16 text k 0 within)) ∙ sym lane
    ∙ not_set (get_or (map test lanes) k false) _ (bit_mask_l (map test lanes) k) unmarked

next_byte : (text : List ℕ) (k : ℕ) → get_or (drop 1 text) k 0 ≡ get_or text (k + 1) 0
next_byte text k = get_or_after_one text k 0 ∙ ap (λ (n : ℕ). get_or text n 0) (omega arith)

-- the same of the byte after it, by the marks of the text after its first byte
pub other_next : (byte : ℕ) (text : List ℕ) (k : ℕ) → k < 16 → 17 ≤ length text
    → bit_at (mask_l (map (λ (lane : ℕ). lane == byte) (take 16 (drop 1 text)))) k ≡ 0
    → (get_or text (k + 1) 0 == byte) ≡ false
other_next byte text k within long unmarked =
    ap (λ (n : ℕ). n == byte) (sym (next_byte text k))
    ∙ other_byte byte (drop 1 text) k within (omega (arith, length-drop 1 text)) unmarked

-- a word whose first byte is another does not begin there
pub other_first : (word text : List ℕ) (k : ℕ) → 1 ≤ length word → k < length text
    → (get_or text k 0 == get_or word 0 0) ≡ false → begins_with word (drop k text) ≡ false
other_first [] text k some within other = absurd (omega arith)
other_first (first ∷ rest) text k some within other = rw (parts_at text k within) (search rules)

-- a word whose second byte is another does not begin before it
pub other_second : (word text : List ℕ) (k : ℕ) → 2 ≤ length word → k + 1 < length text
    → (get_or text (k + 1) 0 == get_or word 1 0) ≡ false → begins_with word (drop k text) ≡ false
other_second [] text k two within other = absurd (omega arith)
other_second (first ∷ []) text k two within other = absurd (omega arith)
other_second (first ∷ second ∷ rest) text k two within other =
    rw (parts_at text k (omega arith), parts_at text (k + 1) within) (search rules)

least_zero : {X : Type 0} (one other : ℕ) → min one other ≡ 0 → (one ≡ 0 → X) → (other ≡ 0 → X) → X
least_zero zero other is first second = first refl
least_zero (suc one) zero is first second = second refl
least_zero (suc one) (suc other) is first second = absurd (omega (arith, is))

-- a bit that two numbers do not both have, one of them has not
pub either_unset : {X : Type 0} (one other k : ℕ) → bit_at (bit_and one other) k ≡ 0
    → (bit_at one k ≡ 0 → X) → (bit_at other k ≡ 0 → X) → X
either_unset one other k unset first second =
    least_zero (bit_at one k) (bit_at other k) (sym (bit_at_and one other k) ∙ unset) first second

-- the bits below the lowest one are not set
pub lower_bit : (marks k : ℕ) → marks < 2 ^ 64 → k < count_trailing_zeros 64 marks
    → bit_at marks k ≡ 0
lower_bit zero k small less = bit_at-zero k
lower_bit (suc marks) k small less =
    (bit_at-trailing_zeros w64 (suc marks) (omega arith) small).2 k less

-- a search goes on after bytes that were passed
pub search_skips : (wanted : Wanted) (word text : List ℕ) (place passed : ℕ)
    → IsSearchedUpTo wanted word text place
    → passed ≤ length (take (length text - place) (drop place text))
    → claim_after wanted word (take (length text - place) (drop place text))
    ≡ moved_place passed
    (claim_after wanted word (drop passed (take (length text - place) (drop place text))))
    → IsSearchedUpTo wanted word text (place + passed)
search_skips wanted word text place passed searched short skips =
    let found = rw take_rest at skips in
    let less : passed ≤ length (drop place text) = rw take_rest at short in
    record {
      within = omega (arith, length-drop place text, searched.within);
      found = searched.found ∙ ap (moved_place place) found
          ∙ place_after place passed (claim_after wanted word (drop passed (drop place text)))
          ∙ ap (λ (l : List ℕ). moved_place (place + passed) (claim_after wanted word l))
          (drop-drop passed place text);
    }
