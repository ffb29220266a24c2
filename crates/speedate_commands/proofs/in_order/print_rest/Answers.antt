use Rattle.std.proofs.lemmas.Result.{on_ok_weaker}
use Rattle.speedate_commands.proofs.FoundLemmas.{prints-rest}
use Rattle.speedate_commands.proofs.in_order.print_rest.Goals as goal

pub returns-clause-same : goal.returns-clause-same
returns-clause-same g c came =
    on_ok_weaker c.print_bounded.result (λ sent. prints-rest c.args.command.now
    c.print_bounded.new.command _ _ _ c.args.begin c.in-Ok.start c.in-Ok-end.end
    c.in-Ok-number_at.number c.in-Ok.ensures.ordered c.number_at.ensures.fits
    c.in-Ok.ensures.start c.in-Ok-end.ensures.end c.in-Ok-number_at.ensures.number sent came)
    c.print_bounded.ensures.ended
