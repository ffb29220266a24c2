use Rattle.std.proofs.Common.{◌∙◌, ap}
use Rattle.speedate_cli.proofs.FilesLemmas.{prints_from}
use Rattle.speedate_cli.proofs.files.read_input.Goals as goal

pub returns-clause-left : goal.returns-clause-left
returns-clause-left g c =
    let same = ap (λ watch. g.R.Read.remaining watch.inner.inner) c.new-input.ensures.new
    ∙ ap (λ input. g.R.Read.remaining input) c.new.ensures.inner in (
      g.R.Read.remaining c.print-ended.new.input.inner.inner,
      prints_from
          g.C.LineMachine.machine g.C.Command.scan g.C.Command.begun
          g.C.Command.Says g.C.Command.about c.print-ended.result c.args.command.now
          c.print-ended.new.self _ _ _ _ _ same c.print-ended.ensures.ended
          c.print-ended.ensures.read_failed c.print-ended.ensures.write_failed,
    )
