use Rattle.std.proofs.Common.{rules, ◌≡◌, ap, sym, List, ℕ, [], ◌∷◌, ◌++◌, append_assoc, is_none, false}
use Rattle.speedate_base.specs.Ascii.{line_feed}
use Rattle.speedate_stream.specs.Machine.{head, part_of, rest_of}
use Rattle.speedate_stream.proofs.LineOutputLemmas.{rest_of-part}
use Rattle.speedate_stream.proofs.SentLemmas.{OnlyWrites-front, OnlyWrites-line, OnlyWrites-part}
use Rattle.speedate_stream.proofs.run.print_line.Goals as goal

pub returns-in_err-rest-clause-printed : goal.returns-in_err-rest-clause-printed
returns-in_err-rest-clause-printed g c =
    let m = g.M.LineMachine.machine in
    let line : List ℕ = c.args.line.now in
    let rest = rest_of (m.rest c.args.machine.now (head line)) line in
    OnlyWrites-front _ rest _ (search rules) c.in_err-rest.ensures.printed
    (sym (append_assoc c.args.pending.now.items (m.text c.args.machine.now (head line)) rest))

pub returns-in_err-pass_rest-clause-printed : goal.returns-in_err-pass_rest-clause-printed
returns-in_err-pass_rest-clause-printed g c =
    let line : List ℕ = c.args.line.now in
    let text = g.M.LineMachine.machine.text c.args.machine.now (head line) in
    let part = part_of c.in_ok-rest.rest line in
    let some : is_none c.in_ok-rest.rest ≡ false = search rules in
    let rest = rest_of-part c.in_ok-rest.rest _ line some c.in_ok-rest.ensures.rest in
    OnlyWrites-part c.args.pending.now.items _ text part (line_feed ∷ []) _ _ (search rules)
    (ap (λ (bytes : List ℕ). text ++ bytes) rest)
    c.in_ok-rest.ensures.printed c.in_err-pass_rest.ensures.sent

pub returns-clause-printed : goal.returns-clause-printed
returns-clause-printed g c =
    let line : List ℕ = c.args.line.now in
    let text = g.M.LineMachine.machine.text c.args.machine.now (head line) in
    let part = part_of c.in_ok-rest.rest line in
    let some : is_none c.in_ok-rest.rest ≡ false = search rules in
    let rest = rest_of-part c.in_ok-rest.rest _ line some c.in_ok-rest.ensures.rest in
    OnlyWrites-line c.args.pending.now.items text part (line_feed ∷ []) _ _
    (ap (λ (bytes : List ℕ). text ++ bytes) rest)
    c.in_ok-rest.ensures.printed c.in_ok-pass_rest.ensures.sent c.end_line.ensures.sent
