use Rattle.std.proofs.Common.{rules, ◌∙◌, ap, sym, ℕ, ◌+◌, ◌-◌, List, ◌++◌, take, drop, append_assoc, append-nil, arith}
use Rattle.std.proofs.Math.Bool.{or-false}
use Rattle.speedate_base.specs.Lines.{Pieces, complete_lines}
use Rattle.speedate_base.proofs.LineLemmas.{pieces-from, pieces-rest}
use Rattle.speedate_stream.specs.Machine.{head, line_output, lines_output, state_after}
use Rattle.speedate_stream.proofs.SentLemmas.{AppendsBut-trans, AppendsBut-more, AppendsBut-same}
use Rattle.speedate_stream.proofs.SentLemmas.{OnlyWrites-failed}
use Rattle.speedate_stream.proofs.run.print_complete.Goals as goal

pub loop-end-preserved : goal.loop-end-preserved
loop-end-preserved g c =
    let m = g.M.LineMachine.machine in
    let text : List ℕ = c.args.text.now in
    let before = c.loop-end.invariant in
    let state = c.loop-end.machine in
    let end = c.in-Some.end in
    let line : List ℕ = take (end - c.loop-end.start) (drop c.loop-end.start text) in
    let others = complete_lines (drop (end + 1) text) in
    let after = m.after state (head line) in
    let waiting : List ℕ = c.loop-end.pending.items in
    let here = pieces-from text c.loop-end.start c.loop-end.searched end before.ordered
    before.one_line c.in-Some.ensures.found in
    let is_after = sym c.in_ok-print_line.ensures.state in
    let same = ap (λ (all : Pieces). waiting ++ lines_output m state all.complete) here
    ∙ sym (append_assoc waiting (line_output m state line) (lines_output m after others)) in
    let rest = lines_output m after others in
    let sent = AppendsBut-trans (AppendsBut-same before.printed same)
    (AppendsBut-more rest c.in_ok-print_line.ensures.printed.writes.sent) in
    let printed : List ℕ = c.print_line.new.pending.items in
    record {
      ordered = omega arith;
      within = omega (arith, c.in-Some.ensures.found.within);
      one_line = λ k after below same. absurd (omega arith);
      printed = AppendsBut-same sent
          (ap (λ now. printed ++ lines_output m now others) is_after);
      failed = search (rules, or-false);
      unflushed = search rules;
      state = before.state
          ∙ ap (λ (all : Pieces). state_after m state all.complete) here
          ∙ ap (λ now. state_after m now others) is_after;
      rest = before.rest ∙ ap (λ (all : Pieces). all.unfinished) here;
    }

pub returns-clause-unfinished : goal.returns-clause-unfinished
returns-clause-unfinished g c =
    let before = c.loop-end.invariant in
    let here = pieces-rest c.args.text.now c.loop-end.start c.loop-end.searched before.one_line
    c.in_default.ensures.found in
    sym (before.rest ∙ ap (λ (all : Pieces). all.unfinished) here)

pub returns-clause-state : goal.returns-clause-state
returns-clause-state g c =
    let m = g.M.LineMachine.machine in
    let before = c.loop-end.invariant in
    let here = pieces-rest c.args.text.now c.loop-end.start c.loop-end.searched before.one_line
    c.in_default.ensures.found in
    sym (before.state ∙ ap (λ (all : Pieces). state_after m c.loop-end.machine all.complete) here)

pub returns-clause-printed : goal.returns-clause-printed
returns-clause-printed g c =
    let m = g.M.LineMachine.machine in
    let before = c.loop-end.invariant in
    let waiting : List ℕ = c.loop-end.pending.items in
    let here = pieces-rest c.args.text.now c.loop-end.start c.loop-end.searched before.one_line
    c.in_default.ensures.found in
    let left = ap (λ (all : Pieces). waiting ++ lines_output m c.loop-end.machine all.complete) here
    ∙ append-nil waiting in
    record {
      writes = record {
        failed = search (rules, or-false);
        sent = AppendsBut-same before.printed left;
        beginning = search rules;
      };
      unflushed = search rules;
    }

pub returns-in_err-print_line-clause-printed : goal.returns-in_err-print_line-clause-printed
returns-in_err-print_line-clause-printed g c =
    let m = g.M.LineMachine.machine in
    let text : List ℕ = c.args.text.now in
    let before = c.loop-end.invariant in
    let state = c.loop-end.machine in
    let end = c.in-Some.end in
    let line : List ℕ = take (end - c.loop-end.start) (drop c.loop-end.start text) in
    let rest = complete_lines (drop (end + 1) text) in
    let others = lines_output m (m.after state (head line)) rest in
    let waiting : List ℕ = c.loop-end.pending.items in
    let here = pieces-from text c.loop-end.start c.loop-end.searched end before.ordered
    before.one_line c.in-Some.ensures.found in
    let same = ap (λ (all : Pieces). waiting ++ lines_output m state all.complete) here
    ∙ sym (append_assoc waiting (line_output m state line) others) in
    OnlyWrites-failed others _ (search rules) (AppendsBut-same before.printed same)
    before.failed before.unflushed c.in_err-print_line.ensures.printed
