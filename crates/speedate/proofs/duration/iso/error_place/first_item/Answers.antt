use Rattle.std.proofs.Common.{◌≡◌, ◌≤◌, ◌<◌, ◌-◌, ◌+◌, ◌∙◌, ap, sym, subst, arith, rules, ℕ, Bool, true, false, List, length, drop, if◌then◌else◌, IsOk, Result, Ok, Err}
use Rattle.std.proofs.lemmas.Bool.Decides.{nat_tests}
use Rattle.std.proofs.lemmas.List.{drop-drop, length-drop, take_rest}
use Rattle.speedate_base.specs.Refused.{from_byte, placed}
use Rattle.speedate_base.specs.declared.refusal.Refused.{Refused}
use Rattle.speedate_base.specs.Requirement.{shifted}
use Rattle.speedate.specs.DurationNumbers.{UnsignedDuration}
use Rattle.speedate.specs.DurationPlace.{amount_numbers, first_item_after}
use Rattle.speedate.specs.IsoForm.{item_at}
use Rattle.speedate.specs.IsoParts.{bound_test, item_front_or, sums_parts}
use Rattle.speedate.proofs.DurationPlaceLemmas.{first_item-done, first_item-step, iso_from-read}
use Rattle.speedate.proofs.DurationPlaceLemmas.{iso_from-refused}
use Rattle.speedate.proofs.duration.iso.error_place.first_item.Goals as goal

is_ok-part : (start : ℕ) (answer : Result UnsignedDuration Refused) → IsOk (from_byte start answer)
    → IsOk answer
is_ok-part start (Ok amount) ok = ok
is_ok-part start (Err refused) ok = absurd (cc)

pub returns-then-not-holds-clause-place : goal.returns-then-not-holds-clause-place
returns-then-not-holds-clause-place c =
    let body = c.args.body.now in
    let place = c.loop-place.place in
    let sums = sums_parts c.loop-place.sums in
    let next = sums_parts c.in-Ok.next in
    let test = bound_test c.args.bound in
    let text = take_rest body place in
    let more : place < length body = grind (arith, nat_tests, c.loop-place-test.true) in
    let left : length (drop place body) ≡ length body - place = length-drop place body in
    let size = c.in-Ok.size in
    let rest = drop place body in
    let refuse = shifted place placed in
    let some : 0 < length rest = omega (arith, left, more) in
    let fails : c.holds.result ≡ false = search rules in
    let front_of = λ (text : List ℕ). item_front_or refuse sums (item_at text) in
    let read = c.in-Ok.ensures.item ∙ ap front_of text in
    let small = subst (λ (text : List ℕ). size ≤ length text) text c.in-Ok.ensures.within in
    let step = first_item-step refuse test sums next rest size some small read in
    let holds_of = λ (amount : UnsignedDuration). test (amount_numbers amount) in
    let held = ap holds_of (sym c.sum.ensures.amount) ∙ sym c.holds.ensures ∙ fails in
    let after = size + first_item_after test 0 next (drop size rest) in
    let none = step ∙ ap (λ (holds : Bool). if holds then after else 0) held in
    omega (arith, none, c.loop-place.invariant.0)

pub loop-place-preserved : goal.loop-place-preserved
loop-place-preserved c =
    let body = c.args.body.now in
    let place = c.loop-place.place in
    let size = c.in-Ok.size in
    let rest = drop place body in
    let sums = sums_parts c.loop-place.sums in
    let next = sums_parts c.in-Ok.next in
    let text = take_rest body place in
    let more : place < length body = grind (arith, nat_tests, c.loop-place-test.true) in
    let left : length rest ≡ length body - place = length-drop place body in
    let some : 0 < length rest = omega (arith, left, more) in
    let holds : c.holds.result ≡ true = search rules in
    let refuse = shifted place placed in
    let front_of = λ (text : List ℕ). item_front_or refuse sums (item_at text) in
    let read = c.in-Ok.ensures.item ∙ ap front_of text in
    let small = subst (λ (text : List ℕ). size ≤ length text) text c.in-Ok.ensures.within in
    let test = bound_test c.args.bound in
    let step = first_item-step refuse test sums next rest size some small read in
    let later = iso_from-read refuse sums next rest size some small read in
    search (rules, holds, left, more, small, step, later, drop-drop size place body, is_ok-part)

pub returns-after-loop-place-clause-place : goal.returns-after-loop-place-clause-place
returns-after-loop-place-clause-place c = search (rules, length-drop, first_item-done)

pub returns-in_default-clause-place : goal.returns-in_default-clause-place
returns-in_default-clause-place c =
    let body = c.args.body.now in
    let place = c.loop-place.place in
    let rest = drop place body in
    let sums = sums_parts c.loop-place.sums in
    let more : place < length body = grind (arith, nat_tests, c.loop-place-test.true) in
    let some : 0 < length rest = omega (arith, length-drop place body, more) in
    let refuse = shifted place placed in
    let front_of = λ (text : List ℕ). item_front_or refuse sums (item_at text) in
    let item = c.in_default.ensures.item ∙ ap front_of (take_rest body place) in
    search (rules, iso_from-refused refuse sums rest c.in_default.field-0 some item)
