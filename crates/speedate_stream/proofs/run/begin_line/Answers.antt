use Rattle.std.proofs.Common.{rules, ◌∙◌, sym, refl, List, [], ℕ, append_assoc, append-nil, true}
use Rattle.speedate_stream.specs.Machine.{head, part_of}
use Rattle.speedate_stream.proofs.SentLemmas.{OnlyWrites-front, OnlyWrites-next, OnlyWrites-value}
use Rattle.speedate_stream.proofs.run.begin_line.Goals as goal

pub returns-in_err-rest-clause-printed : goal.returns-in_err-rest-clause-printed
returns-in_err-rest-clause-printed g c =
    let line : List ℕ = c.args.line.now in
    let part = part_of (g.M.LineMachine.machine.rest c.args.machine.now (head line)) line in
    OnlyWrites-front _ part _ (search rules) c.in_err-rest.ensures.printed
    (rw (sym c.is_passed.ensures.passed ∙ c.if-not-is_passed.false) (simp append_assoc))

pub returns-in_err-pass_rest-clause-printed : goal.returns-in_err-pass_rest-clause-printed
returns-in_err-pass_rest-clause-printed g c =
    let line : List ℕ = c.args.line.now in
    let is = sym c.is_passed.ensures.passed ∙ c.if-not-is_passed.false in
    let sent = OnlyWrites-next (part_of c.in_ok-rest.rest line) _ c.in_ok-rest.ensures.printed
    c.in_err-pass_rest.ensures.sent refl in
    OnlyWrites-front _ [] _ (search rules) sent
    (rw (is, ← c.in_ok-rest.ensures.rest) (simp (append_assoc, append-nil)))

pub returns-clause-printed : goal.returns-clause-printed
returns-clause-printed g c =
    let line : List ℕ = c.args.line.now in
    let is = sym c.is_passed.ensures.passed ∙ c.if-not-is_passed.false in
    OnlyWrites-value true (OnlyWrites-next (part_of c.in_ok-rest.rest line) _
    c.in_ok-rest.ensures.printed c.in_ok-pass_rest.ensures.sent
    (rw (is, ← c.in_ok-rest.ensures.rest) (simp append_assoc)))
