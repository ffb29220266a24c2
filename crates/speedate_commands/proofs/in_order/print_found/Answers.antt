use Rattle.std.proofs.Common.{inl, inr, rules}
use Rattle.speedate_commands.proofs.FoundLemmas.{numbers-kept, numbers-moved}
use Rattle.speedate_commands.proofs.in_order.print_found.Goals.{
  else-command-told-via-then-command-told+else-not-command,
  else-command-told-via-else-command-told,
}
use Rattle.speedate_commands.proofs.in_order.print_found.Goals as goal

pub returns-in-Ok-clause-numbers : goal.returns-in-Ok-clause-numbers
returns-in-Ok-clause-numbers g c =
    numbers-moved c.args.command.now c.print_part-ended.new.command
    (g.S.ReadAt.text c.args.source.now) c.args.begin c.args.start c.in-Ok.skipped
    c.renumber.new.scan (search rules) (search rules) c.in-Ok.ensures.counted
    c.renumber.ensures.renumbered

pub returns-else-command-told-clause-numbers : goal.returns-else-command-told-clause-numbers
returns-else-command-told-clause-numbers g c =
    numbers-kept c.args.command.now c.print_part-ended.new.command
    (g.S.ReadAt.text c.args.source.now) c.args.begin c.args.start
    (elim c.else-command-told.branch [
      | else-command-told-via-then-command-told+else-not-command w ↦ inr (search rules)
      | else-command-told-via-else-command-told w ↦ inl (search rules)
    ])
