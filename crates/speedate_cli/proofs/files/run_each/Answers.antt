use Rattle.std.proofs.Common.{◌∙◌, drop, sym}
use Rattle.speedate_cli.proofs.FilesLemmas.{runs_none}
use Rattle.speedate_cli.proofs.files.run_each.Goals as goal

pub returns-then-is_over-clause-ran : goal.returns-then-is_over-clause-ran
returns-then-is_over-clause-ran g c =
    let sent = g.W.Write.contents c.loop-name.output.inner in
    c.loop-name.invariant.runs c.loop-name.command sent c.loop-name.status
    (runs_none g.C.LineMachine.machine g.C.Command.scan g.C.Command.begun g.C.Command.Says
    g.C.Command.about (g.F.Files.contents c.args.files.now)
    (drop c.loop-name.name-index c.args.names.now) c.loop-name.command sent
    c.loop-name.status (sym c.is_over.ensures.over ∙ c.if-is_over.true))
