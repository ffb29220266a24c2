use Rattle.std.proofs.Common.{◌≡◌, ℕ, List, ◌++◌, arith}
use Rattle.std.proofs.lemmas.Grind.{common_steps}
use Rattle.std.specs.Prelude.{codes}
use Rattle.speedate_commands.specs.Summary.{gap_end, gap_length}
use Rattle.speedate_commands.proofs.summary.push_gap.Goals as goal

joined : (old first second size end : List ℕ) → first ≡ old ++ size → second ≡ first ++ end
    → second ≡ old ++ (size ++ end)
joined old first second size end one two = grind (arith, common_steps)

pub returns-clause-pushed : goal.returns-clause-pushed
returns-clause-pushed c =
    let gap = c.args.gap.now in
    joined c.args.pending.now.items c.push_gap_length.new.pending.items
    c.push_gap_end.new.pending.items (gap_length (codes "longest gap ") gap) (gap_end gap)
    c.push_gap_length.ensures.pushed c.push_gap_end.ensures.pushed
