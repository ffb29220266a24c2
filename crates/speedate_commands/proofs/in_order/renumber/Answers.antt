use Rattle.std.proofs.Common.{◌≡◌, ◌∙◌, ◌+◌, ap, arith, suc, ℕ, List, get_or, set}
use Rattle.speedate_commands.specs.Base.{Report, Scan}
use Rattle.speedate_commands.specs.InOrder.{later, moved, renumbered}
use Rattle.speedate_commands.proofs.ReportLemmas.{moved-kept, moved-next, nothing}
use Rattle.speedate_commands.proofs.in_order.renumber.Goals.{then-index-first, else-index-first}
use Rattle.speedate_commands.proofs.in_order.renumber.Goals as goal

pub loop-index-preserved : goal.loop-index-preserved
loop-index-preserved c =
    let index = c.loop-index.index in
    let first = c.args.first in
    let skipped = c.args.skipped in
    let old : List Report = c.args.scan.now.reports in
    let is = renumbered c.args.scan.now skipped in
    let next : suc index ≡ index + 1 = omega arith in
    let moves : c.if-index-first.scan ≡ is (moved (suc index) first skipped old) =
    elim c.if-index-first.branch [
      | then-index-first w ↦
          w.scan-is
          ∙ ap (λ (report : Report). record c.loop-index.scan {
            reports = set c.loop-index.scan.reports index report;
          }) w.later.ensures.later
          ∙ ap (λ (scan : Scan). record scan {
            reports = set scan.reports index (later skipped (get_or scan.reports index nothing));
          }) c.loop-index.invariant
          ∙ ap is (moved-next index first skipped old nothing w.if-index-first.true)
      | else-index-first w ↦
          w.scan-is ∙ c.loop-index.invariant
          ∙ ap is (moved-kept index first skipped old w.if-index-first.false)
    ] in
    moves ∙ ap (λ (n : ℕ). is (moved n first skipped old)) next

pub returns : goal.returns
returns c =
    let all : c.loop-index.index ≡ 10 =
    omega (arith, c.loop-index-test.false, c.loop-index.auto.index-end) in
    record {
      renumbered = c.loop-index.invariant
          ∙ ap (λ (n : ℕ). renumbered c.args.scan.now c.args.skipped
          (moved n c.args.first c.args.skipped c.args.scan.now.reports)) all;
    }
