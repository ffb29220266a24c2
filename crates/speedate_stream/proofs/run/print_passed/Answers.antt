use Rattle.std.proofs.Common.{rules, ◌≡◌, true, ◌∙◌, ap, sym, refl, List, ℕ, ◌+◌, ◌-◌, length, take, drop, arith}
use Rattle.std.proofs.lemmas.List.{take_rest, drop-drop, drop_all}
use Rattle.speedate_base.specs.Lines.{IsLineEnd}
use Rattle.speedate_stream.specs.Machine.{Machine, Position, head, position_after, position_from}
use Rattle.speedate_stream.specs.Machine.{printed_after}
use Rattle.speedate_stream.proofs.MachineLemmas.{passed-line, passed-rest}
use Rattle.speedate_stream.proofs.SentLemmas.{OnlyWrites-bytes, OnlyWrites-fails, OnlyWrites-front}
use Rattle.speedate_stream.proofs.SentLemmas.{OnlyWrites-next, OnlyWrites-value}
use Rattle.speedate_stream.proofs.run.print_passed.Goals as goal

-- the position after a text within a line that ends in it, from the position after what follows
line-then : {S : Type 0} (m : Machine S) (state : S) (text : List ℕ) (end : ℕ)
    → IsLineEnd text 0 end → position_from m state true text
    ≡ printed_after (take (end + 1) text)
    (position_after m state (take (length text - (end + 1)) (drop (end + 1) text)))
line-then m state text end found = passed-line m state text end _ found (take_rest text (end + 1))

pub returns-in_err-write_all-clause-printed : goal.returns-in_err-write_all-clause-printed
returns-in_err-write_all-clause-printed g c =
    let is = passed-rest g.M.LineMachine.machine _ c.args.text.now c.in_default.ensures.found in
    OnlyWrites-bytes (ap (λ (position : Position _). position.printed) is)
    (OnlyWrites-fails _ _ (search rules) c.in_err-write_all.ensures.sent)

pub returns-in_default-clause-printed : goal.returns-in_default-clause-printed
returns-in_default-clause-printed g c =
    let is = passed-rest g.M.LineMachine.machine _ c.args.text.now c.in_default.ensures.found in
    OnlyWrites-bytes (ap (λ (position : Position _). position.printed) is)
    (OnlyWrites-value _ c.in_ok-write_all.ensures.sent)

pub returns-in_default-clause-state : goal.returns-in_default-clause-state
returns-in_default-clause-state g c =
    let is = passed-rest g.M.LineMachine.machine _ c.args.text.now c.in_default.ensures.found in
    sym (ap (λ (position : Position _). position.state) is)

pub returns-in_default-clause-passes : goal.returns-in_default-clause-passes
returns-in_default-clause-passes g c =
    let is = passed-rest g.M.LineMachine.machine _ c.args.text.now c.in_default.ensures.found in
    sym (ap (λ (position : Position _). position.passes) is)

pub returns-in_default-clause-kept : goal.returns-in_default-clause-kept
returns-in_default-clause-kept g c =
    let is = passed-rest g.M.LineMachine.machine _ c.args.text.now c.in_default.ensures.found in
    ap head (drop_all _ c.args.text.now (omega arith))
    ∙ sym (ap (λ (position : Position _). position.kept) is)

pub returns-in_err-write_all-2-clause-printed : goal.returns-in_err-write_all-2-clause-printed
returns-in_err-write_all-2-clause-printed g c =
    let text : List ℕ = c.args.text.now in
    let is = passed-line g.M.LineMachine.machine c.args.machine.now text c.in-Some.end
    (drop (c.in-Some.end + 1) text) c.in-Some.ensures.found refl in
    OnlyWrites-front _ _ _ (search rules) c.in_err-write_all-2.ensures.sent
    (ap (λ (position : Position _). position.printed) is)

pub returns-in_err-last-clause-printed : goal.returns-in_err-last-clause-printed
returns-in_err-last-clause-printed g c =
    let m = g.M.LineMachine.machine in
    let is = line-then m c.args.machine.now c.args.text.now c.in-Some.end c.in-Some.ensures.found in
    OnlyWrites-fails _ _ (search rules)
    (OnlyWrites-next _ _ c.in_ok-write_all-2.ensures.sent c.in_err-last.ensures.printed
    (ap (λ (position : Position _). position.printed) is))

pub returns-clause-printed : goal.returns-clause-printed
returns-clause-printed g c =
    let m = g.M.LineMachine.machine in
    let is = line-then m c.args.machine.now c.args.text.now c.in-Some.end c.in-Some.ensures.found in
    OnlyWrites-value _
    (OnlyWrites-next _ _ c.in_ok-write_all-2.ensures.sent c.in_ok-last.ensures.printed
    (ap (λ (position : Position _). position.printed) is))

pub returns-clause-state : goal.returns-clause-state
returns-clause-state g c =
    let m = g.M.LineMachine.machine in
    let is = line-then m c.args.machine.now c.args.text.now c.in-Some.end c.in-Some.ensures.found in
    c.in_ok-last.ensures.state ∙ sym (ap (λ (position : Position _). position.state) is)

pub returns-clause-passes : goal.returns-clause-passes
returns-clause-passes g c =
    let m = g.M.LineMachine.machine in
    let is = line-then m c.args.machine.now c.args.text.now c.in-Some.end c.in-Some.ensures.found in
    c.in_ok-last.ensures.passes ∙ sym (ap (λ (position : Position _). position.passes) is)

pub returns-clause-kept : goal.returns-clause-kept
returns-clause-kept g c =
    let m = g.M.LineMachine.machine in
    let is = line-then m c.args.machine.now c.args.text.now c.in-Some.end c.in-Some.ensures.found in
    let text : List ℕ = c.args.text.now in
    let next = c.in-Some.end + 1 in
    let start = c.in_ok-last.last.start in
    ap head (sym (drop-drop start next text)
    ∙ ap (λ (rest : List ℕ). drop start rest) (sym (take_rest text next)))
    ∙ c.in_ok-last.ensures.kept
    ∙ sym (ap (λ (position : Position _). position.kept) is)
