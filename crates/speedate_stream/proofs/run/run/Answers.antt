use Rattle.std.proofs.Common.{rules, ◌≡◌, ◌∙◌, ap, sym, subst, refl, inl, inr, ℕ, List, [], ◌++◌, take, append-nil}
use Rattle.std.proofs.KnownBytes.{Appends-kept, Appends-trans, Consumes-trans}
use Rattle.std.proofs.Math.Bool.{or-false}
use Rattle.std.proofs.lemmas.List.{length-take-le}
use Rattle.std.specs.Io.KnownBytes.{Appends, Consumes}
use Rattle.speedate_base.specs.Lines.{lines}
use Rattle.speedate_stream.specs.Machine.{Position, lines_output, progress}
use Rattle.speedate_stream.proofs.PositionLemmas.{IsOneLine-kept, position-block}
use Rattle.speedate_stream.proofs.PositionLemmas.{lines_output-ended, state_after-ended}
use Rattle.speedate_stream.proofs.SentLemmas.{Appends-all, AppendsFrom-beginning}
use Rattle.speedate_stream.proofs.run.run.Goals as goal

pub print_block-requires-clause-one_line : goal.print_block-requires-clause-one_line
print_block-requires-clause-one_line g c =
    let m = g.M.LineMachine.machine in
    let before = c.loop-block.invariant.printed in
    let filled = c.in-Ok.ensures.filled in
    let size = sym (length-take-le c.loop-block.kept c.loop-block.block filled.room) in
    IsOneLine-kept m c.args.machine.now before.0 _ filled.more _ _ before.5 size filled.text

-- the block goes on with what was kept
joined : (cut kept more block : List ℕ) → block ≡ cut ++ more → cut ≡ kept → block ≡ kept ++ more
joined cut kept more block is same = is ∙ ap (λ (front : List ℕ). front ++ more) same

pub loop-block-preserved : goal.loop-block-preserved
loop-block-preserved g c =
    let m = g.M.LineMachine.machine in
    let before = c.loop-block.invariant in
    let read = before.printed.0 in
    let filled = c.in-Ok.ensures.filled in
    let block : List ℕ = take c.in-Ok.filled c.fill.new.block in
    let done = c.in-Ok-print_block.ensures in
    let is = position-block m c.args.machine.now c.loop-block.machine c.loop-block.passes read
    filled.more block before.printed.3 before.printed.4
    (joined _ _ filled.more block filled.text before.printed.5) in
    let here = sym is in
    let sent = Appends-all done.printed.writes.sent in
    record {
      empty = done.empty;
      input_failed = search (rules, or-false);
      output_failed = search (rules, or-false);
      unflushed = search rules;
      short = c.keep_line-kept.ensures.short;
      printed = (
        read ++ filled.more,
        Consumes-trans _ _ _ read filled.more before.printed.1 filled.consumed,
        subst (Appends _ _) (ap (λ (position : Position _). position.printed) here)
            (Appends-trans _ _ _ (progress m c.args.machine.now read) _ before.printed.2 sent),
        done.state ∙ ap (λ (position : Position _). position.state) here,
        done.passes ∙ ap (λ (position : Position _). position.passes) here,
        c.keep_line-kept.ensures.kept
            ∙ done.kept
            ∙ ap (λ (position : Position _). position.kept) here,
      );
    }

-- at the end of the input the block holds what it held before the last read
still_kept : (kept filled : ℕ) (old new more cut : List ℕ) → take kept old ≡ cut
    → take filled new ≡ take kept old ++ more → filled ≡ kept → more ≡ [] → take kept new ≡ cut
still_kept kept filled old new more cut is text same none =
    ap (λ (n : ℕ). take n new) (sym same)
    ∙ text
    ∙ ap (λ (end : List ℕ). take kept old ++ end) none
    ∙ append-nil (take kept old)
    ∙ is

pub returns-in-Ok-finish-clause-ended : goal.returns-in-Ok-finish-clause-ended
returns-in-Ok-finish-clause-ended g c =
    let m = g.M.LineMachine.machine in
    let before = c.loop-block.invariant.printed in
    let read = before.0 in
    let filled = c.in-Ok.ensures.filled in
    let ended = filled.nothing c.if-filled-kept.true in
    let last : List ℕ = take c.loop-block.kept c.fill.new.block in
    let kept = still_kept c.loop-block.kept c.in-Ok.filled c.loop-block.block c.fill.new.block
    filled.more _ before.5 filled.text c.if-filled-kept.true ended.0 in
    let whole = ap (λ (more : List ℕ). read ++ more) ended.0 ∙ append-nil read in
    let both = Consumes-trans _ _ _ read filled.more before.1 filled.consumed in
    let all = lines_output-ended m c.args.machine.now c.loop-block.machine c.loop-block.passes read
    last before.3 before.4 kept in
    let state = state_after-ended m c.args.machine.now c.loop-block.machine c.loop-block.passes read
    last before.3 before.4 kept in
    let sent = Appends-all c.in-Ok-finish.ensures.printed.sent in
    inl record {
      text = read;
      consumed = subst (Consumes _ _) whole both;
      ended = ended.1;
      state = c.in-Ok-finish.ensures.state ∙ sym state;
      sent = subst (Appends _ _) (sym all)
          (Appends-trans _ _ _ (progress m c.args.machine.now read) _ before.2 sent);
    }

pub returns-in-Err-clause-write_failed : goal.returns-in-Err-clause-write_failed
returns-in-Err-clause-write_failed g c = λ write.
    let m = g.M.LineMachine.machine in
    let before = c.loop-block.invariant.printed in
    let read = before.0 in
    let filled = c.in-Ok.ensures.filled in
    let ended = filled.nothing c.if-filled-kept.true in
    let last : List ℕ = take c.loop-block.kept c.fill.new.block in
    let kept = still_kept c.loop-block.kept c.in-Ok.filled c.loop-block.block c.fill.new.block
    filled.more _ before.5 filled.text c.if-filled-kept.true ended.0 in
    let whole = ap (λ (more : List ℕ). read ++ more) ended.0 ∙ append-nil read in
    let all = lines_output-ended m c.args.machine.now c.loop-block.machine c.loop-block.passes read
    last before.3 before.4 kept in
    let beginning = c.in-Err.ensures.printed.beginning in
    record {
      earlier = read;
      latest = filled.more;
      due = lines_output m c.args.machine.now (lines read);
      consumed = Consumes-trans _ _ _ read filled.more before.1 filled.consumed;
      one_read = filled.one_read;
      is_due = inr (
        ended.1,
        ap (λ (text : List ℕ). lines_output m c.args.machine.now (lines text)) (sym whole),
      );
      sent = AppendsFrom-beginning (progress m c.args.machine.now read) before.2 beginning all;
    }

pub returns-in_default-print_block-clause-write_failed
    : goal.returns-in_default-print_block-clause-write_failed
returns-in_default-print_block-clause-write_failed g c = λ write.
    let m = g.M.LineMachine.machine in
    let before = c.loop-block.invariant.printed in
    let read = before.0 in
    let filled = c.in-Ok.ensures.filled in
    let block : List ℕ = take c.in-Ok.filled c.fill.new.block in
    let is = position-block m c.args.machine.now c.loop-block.machine c.loop-block.passes read
    filled.more block before.3 before.4 (joined _ _ filled.more block filled.text before.5) in
    let beginning = c.in_default-print_block.ensures.printed.writes.beginning in
    record {
      earlier = read;
      latest = filled.more;
      due = progress m c.args.machine.now (read ++ filled.more);
      consumed = Consumes-trans _ _ _ read filled.more before.1 filled.consumed;
      one_read = filled.one_read;
      is_due = inl refl;
      sent = AppendsFrom-beginning (progress m c.args.machine.now read) before.2 beginning
          (ap (λ (position : Position _). position.printed) is);
    }

pub returns-in-Err-flush-clause-write_failed : goal.returns-in-Err-flush-clause-write_failed
returns-in-Err-flush-clause-write_failed g c = λ write.
    let m = g.M.LineMachine.machine in
    let before = c.loop-block.invariant.printed in
    let read = before.0 in
    let printed = progress m c.args.machine.now read in
    let nothing = sym (append-nil printed) in
    record {
      earlier = read;
      latest = [];
      due = printed;
      consumed = subst (Consumes _ _) (sym (append-nil read)) before.1;
      one_read = search rules;
      is_due = inl
          (ap (λ (text : List ℕ). progress m c.args.machine.now text) (sym (append-nil read)));
      sent = record {
        further = [];
        left = [];
        sent = subst (Appends _ _) nothing
            (Appends-kept _ _ _ _ before.2 c.in-Err-flush.ensures.bytes);
        whole = nothing ∙ sym (append-nil (printed ++ []));
      };
    }
