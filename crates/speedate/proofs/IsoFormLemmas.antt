-- The good fronts of an ISO 8601 duration: only one of them is followed by an end, and that end is
-- the answer.
use Rattle.std.proofs.Common.{rules, ap, sym, ◌∙◌, append_assoc, subst, ◌≡◌, MatchBool, ℕ, zero, suc, ◌-◌, Bool, true, false, not, List, [], ◌∷◌, ◌++◌, length, drop, slice_index, ◌==◌, if◌then◌else◌, Result, Ok, Err, refl, flat_map}
use Rattle.speedate_civil.specs.Base.{Behavior, IsoOrder, ParseError}
use Rattle.std.proofs.lemmas.Bool.{false≢true}
use Rattle.std.proofs.lemmas.List.{append_cancel_left}
use Rattle.std.proofs.Math.Seq.{drop-nil}
use Rattle.speedate_base.specs.Ascii.{capital_p}
use Rattle.speedate_base.specs.Numbers.{has_minus, sign_size}
use Rattle.speedate_base.specs.Requirement.{fault_alone, first_fault_or, AllHold, result_and_then}
use Rattle.speedate_base.specs.Refused.{without_place}
use Rattle.speedate.specs.Duration.{days_or_clock, IsGrammarAnswer}
use Rattle.speedate.proofs.DurationAnswerLemmas.{duration_answer-form, duration_fault, fault_after}
use Rattle.speedate.proofs.DurationAnswerLemmas.{fault_after-byte, fault_after-end}
use Rattle.speedate.proofs.DurationAnswerLemmas.{fault_after-item, fault_form}
use Rattle.speedate.specs.DurationNumbers.{DurationNumbers, UnsignedDuration, signed_form}
use Rattle.speedate.specs.IsoForm.{Item, item_text, IsItem, item_at, IsoSums, no_sums, with_item}
use Rattle.speedate.specs.IsoForm.{with_items, item_table, AreGood, sums_amount, Ends, IsEndedFront}
use Rattle.speedate.specs.IsoForm.{IsAnswerFrom}
use Rattle.speedate_base.proofs.RefusalLemmas.{first_refusal_or-next, refusal-all, refusal-value}
use Rattle.speedate.proofs.IsoItemLemmas.{item_at-text, item-front}

-- the amount that a text says without its sign, or its fault
abbrev pub Answer : Type 0
Answer = Result UnsignedDuration ParseError

-- an end has one answer
ends-only : (sums : IsoSums) (rest : List ℕ) (first second : Answer) → Ends sums rest first
    → Ends sums rest second → first ≡ second
ends-only sums [] first second one two = one ∙ sym two
ends-only sums (byte ∷ rest) first second one two = one.2 ∙ sym one.1 ∙ two.1 ∙ sym two.2

-- and is no good item
ends-no_item : (sums : IsoSums) (rest : List ℕ) (answer : Answer) → Ends sums rest answer
    → AllHold (item_table sums (item_at rest)) → ⊥
ends-no_item sums rest answer ends all = search (rules, false≢true)

-- so an end begins with no good item
end-no_front : (sums : IsoSums) (text : List ℕ) (answer : Answer) (item : Item) (items : List Item)
    (rest : List ℕ) → Ends sums text answer
    → text ≡ flat_map item_text (item ∷ items) ++ rest → AreGood sums (item ∷ items) → ⊥
end-no_front sums text answer item items rest ends same good =
    search (rules, append_assoc, item_at-text, ends-no_item)

-- a text has one front of good items that an end follows
front-same : (sums : IsoSums) (items others : List Item) (rest other : List ℕ)
    (first second : Answer)
    → flat_map item_text items ++ rest ≡ flat_map item_text others ++ other → AreGood sums items
    → AreGood sums others
    → Ends (with_items items sums) rest first → Ends (with_items others sums) other second
    → (items ≡ others) × (rest ≡ other)
front-same sums [] [] rest other first second same good goods one two = (refl, same)
front-same sums [] (item ∷ others) rest other first second same good goods one two =
    absurd (end-no_front sums rest first item others other one same goods)
front-same sums (item ∷ items) [] rest other first second same good goods one two =
    absurd (end-no_front sums other second item items rest two (sym same) good)
front-same sums (item ∷ items) (next ∷ others) rest other first second same good goods one two =
    let others_text = flat_map item_text others in
    let later = flat_map item_text items ++ rest in
    let others_after = others_text ++ other in
    let joined = sym (append_assoc (item_text item) (flat_map item_text items) rest)
    ∙ same
    ∙ append_assoc (item_text next) others_text other in
    let is : next ≡ item =
    cc (
      joined,
      item_at-text sums next others_after goods.0 goods.1,
      item_at-text sums item later good.0 good.1,
    ) in
    let with_same = joined ∙ ap (λ (item : Item). item_text item ++ others_after) is in
    let left = append_cancel_left (item_text item) later others_after with_same in
    let GoodAfter = λ (item : Item). AreGood (with_item item sums) others in
    let EndsAfter = λ (item : Item). Ends (with_items others (with_item item sums)) other second in
    let same_from = front-same (with_item item sums) items others rest other first second in
    let after = same_from left good.2 (subst GoodAfter is goods.2) one (subst EndsAfter is two) in
    search (rules, is, after)

pub front-only : (sums : IsoSums) (text : List ℕ) (items others : List Item) (rest other : List ℕ)
    (first second : Answer)
    → IsEndedFront sums text items rest first → IsEndedFront sums text others other second
    → (items ≡ others) × (rest ≡ other)
front-only sums text items others rest other first second one two = search (rules, front-same)

-- so it has one answer
pub answer-only : (sums : IsoSums) (text : List ℕ) (first second : Answer)
    → IsAnswerFrom sums text first → IsAnswerFrom sums text second → first ≡ second
answer-only sums text first second one two = search (rules, front-same, ends-only)

-- a good item before a text leaves the text's answer
answer-with : (sums : IsoSums) (item : Item) (text : List ℕ) (answer : Answer) → IsItem item
    → AllHold (item_table sums item)
    → IsAnswerFrom (with_item item sums) text answer
    → IsAnswerFrom sums (item_text item ++ text) answer
answer-with sums item text answer is all from =
    let items_text = flat_map item_text from.0 in
    let joined = ap (λ (text : List ℕ). item_text item ++ text) from.2.is_text
    ∙ sym (append_assoc (item_text item) items_text from.1) in (
      item ∷ from.0,
      from.1,
      record {
        is_text = joined;
        are_good = (is, all, from.2.are_good);
        ends = from.2.ends;
      },
    )

-- and what follows a text's first item leads to the answer of the text, if the item meets its
-- table; otherwise its fault is the answer
from-step : (sums : IsoSums) (byte : ℕ) (rest : List ℕ) (met : Answer) (next : Answer)
    → first_fault_or (item_table sums (item_at (byte ∷ rest))) (Ok (sums_amount sums)) ≡ met
    → IsAnswerFrom (with_item (item_at (byte ∷ rest)) sums)
    (drop (length (item_text (item_at (byte ∷ rest))) - 1) rest) next
    → IsAnswerFrom sums (byte ∷ rest)
    (first_fault_or (item_table sums (item_at (byte ∷ rest))) next)
from-step sums byte rest (Ok amount) next met from =
    let item = item_at (byte ∷ rest) in
    let table = item_table sums item in
    let all = (refusal-value fault_alone table (sums_amount sums) amount met).0 in
    let front = item-front sums byte rest all in
    let IsAnswer = λ (text : List ℕ). IsAnswerFrom sums text (first_fault_or table next) in
    let met_all = sym (refusal-all fault_alone table next all) in
    let answer = answer-with sums item _ next front.0 all from in
    subst IsAnswer (sym front.1) (subst (IsAnswerFrom sums _) met_all answer)
from-step sums byte rest (Err fault) next met from = (
  [],
  byte ∷ rest,
  record {
    is_text = refl;
    are_good = tt;
    ends = (
      fault,
      met,
      sym (first_refusal_or-next fault_alone (item_table sums (item_at (byte ∷ rest)))
          (sums_amount sums) (Err fault) next (sym met)),
    );
  },
)

-- so every text has an answer, which the function gives
pub iso_after-is : (skipped : ℕ) (sums : IsoSums) (text : List ℕ)
    → IsAnswerFrom sums (drop skipped text) (fault_after skipped sums text)
iso_after-is skipped sums [] = search (rules, fault_after-end, drop-nil)
iso_after-is zero sums (byte ∷ rest) =
    let item = item_at (byte ∷ rest) in
    let size = length (item_text item) - 1 in
    let next = iso_after-is size (with_item item sums) rest in
    subst (IsAnswerFrom sums (byte ∷ rest)) (sym (fault_after-item sums byte rest))
    (from-step sums byte rest _ _ refl next)
iso_after-is (suc skipped) sums (byte ∷ rest) =
    search (rules, fault_after-byte, iso_after-is skipped sums rest)

form-is : (order : IsoOrder) (behavior : Behavior) (text : List ℕ) (iso : Bool)
    → MatchBool iso
    (IsAnswerFrom (no_sums order) (drop 1 text)
    (if iso then fault_form order (drop 1 text) else without_place (days_or_clock behavior text)))
    ((if iso then fault_form order (drop 1 text) else without_place (days_or_clock behavior text))
    ≡ without_place (days_or_clock behavior text))
form-is order behavior text true = iso_after-is 0 (no_sums order) (drop 1 text)
form-is order behavior text false = refl

form-only : (order : IsoOrder) (text : List ℕ) (iso : Bool) (form first second : Answer)
    → MatchBool iso (IsAnswerFrom (no_sums order) text first) (first ≡ form)
    → MatchBool iso (IsAnswerFrom (no_sums order) text second) (second ≡ form) → first ≡ second
form-only order text true form first second one two =
    answer-only (no_sums order) text first second one two
form-only order text false form first second one two = one ∙ sym two

-- so the grammar allows the answer to a text of a duration, and no other
pub duration_answer-grammar : (order : IsoOrder) (behavior : Behavior) (text : List ℕ)
    (answer : Result DurationNumbers ParseError)
    → answer ≡ duration_fault order behavior text → IsGrammarAnswer order behavior text answer
duration_answer-grammar order behavior text answer same =
    let rest = drop (sign_size text) text in
    let iso = slice_index rest 0 == capital_p in
    let is = form-is order behavior rest iso in
    let signed = result_and_then (signed_form (not (has_minus text))) in
    let only = form-only order (drop 1 rest) iso (without_place (days_or_clock behavior rest)) in
    let form = same ∙ duration_answer-form order behavior text in
    record {
      is_allowed = (_, is, form);
      is_only = λ other there. there.2 ∙ ap signed (only there.0 _ there.1 is) ∙ sym form;
      is_only_front = front-only (no_sums order) (drop 1 rest);
    }
