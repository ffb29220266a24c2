use Rattle.std.proofs.Common.{rules, ◌≡◌, ◌++◌, ◌∙◌, ap, refl, List, ℕ, ◌-◌, length, take, drop}
use Rattle.std.proofs.lemmas.List.{take_rest}
use Rattle.speedate_base.specs.Lines.{complete_lines, unfinished_line}
use Rattle.speedate_stream.specs.Machine.{Machine, Position, in_line, is_passed, lines_output}
use Rattle.speedate_stream.specs.Machine.{position_after, state_after}
use Rattle.speedate_stream.proofs.MachineLemmas.{position-pieces}
use Rattle.speedate_stream.proofs.SentLemmas.{OnlyWrites-front, OnlyWrites-next, OnlyWrites-then}
use Rattle.speedate_stream.proofs.SentLemmas.{OnlyWrites-fails, OnlyWrites-value}
use Rattle.speedate_stream.proofs.run.print_lines.Goals as goal

-- what is printed of a text: its complete lines, and then what is of the rest
printed-pieces : {S : Type 0} (m : Machine S) (state last : S) (text : List ℕ) (start : ℕ)
    → last ≡ state_after m state (complete_lines text) → drop start text ≡ unfinished_line text
    → let rest = take (length text - start) (drop start text) in
    (position_after m state text).printed ≡ lines_output m state (complete_lines text)
    ++ (in_line m last rest (is_passed m last rest)).printed
printed-pieces m state last text start is ends =
    ap (λ (position : Position _). position.printed)
    (position-pieces m state last text _ is (take_rest text start ∙ ends))

pub returns-in_err-start-clause-printed : goal.returns-in_err-start-clause-printed
returns-in_err-start-clause-printed g c =
    OnlyWrites-front _ _ _ (search rules) c.in_err-start.ensures.printed refl

pub returns-in_err-passes-clause-printed : goal.returns-in_err-passes-clause-printed
returns-in_err-passes-clause-printed g c =
    let is = printed-pieces g.M.LineMachine.machine c.args.machine.now _ c.args.text.now _
    c.in_ok-start.ensures.state c.in_ok-start.ensures.unfinished in
    OnlyWrites-fails _ _ (search rules)
    (OnlyWrites-next _ _ c.in_ok-start.ensures.printed c.in_err-passes.ensures.printed is)

pub returns-in_err-send-clause-printed : goal.returns-in_err-send-clause-printed
returns-in_err-send-clause-printed g c =
    let is = printed-pieces g.M.LineMachine.machine c.args.machine.now _ c.args.text.now _
    c.in_ok-start.ensures.state c.in_ok-start.ensures.unfinished in
    let both = OnlyWrites-next _ _ c.in_ok-start.ensures.printed
    c.in_ok-passes.ensures.printed is in
    OnlyWrites-fails _ _ (search rules) (OnlyWrites-then _ both c.in_err-send.ensures.sent)

pub returns-then-passes-clause-printed : goal.returns-then-passes-clause-printed
returns-then-passes-clause-printed g c =
    let is = printed-pieces g.M.LineMachine.machine c.args.machine.now _ c.args.text.now _
    c.in_ok-start.ensures.state c.in_ok-start.ensures.unfinished in
    let both = OnlyWrites-next _ _ c.in_ok-start.ensures.printed
    c.in_ok-passes.ensures.printed is in
    OnlyWrites-value _ (OnlyWrites-then _ both c.in_ok-send.ensures.sent)
