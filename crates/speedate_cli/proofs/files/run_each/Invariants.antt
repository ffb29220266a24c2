use Rattle.std.proofs.Common.{◌≡◌, ◌==◌, ◌≤◌, false, ℕ, List, Option, drop}
use Rattle.speedate_cli.specs.Files.{RunsFiles}
use Rattle.speedate_cli.proofs.files.run_each.Given as goal

-- what a run over the files that are left leaves is what the run over all leaves
abbrev pub invariant-loop-name : goal.invariant-loop-name
invariant-loop-name g l = record {
  runs : (after : g.row.C.Denot) (new : Option (List ℕ)) (last : ℕ)
      → RunsFiles g.C.LineMachine.machine g.C.Command.scan g.C.Command.begun g.C.Command.Says
      g.C.Command.about (g.F.Files.contents l.files) (drop l.name-index l.names) l.command after
      (g.W.Write.contents l.output.inner) new l.status last
      → RunsFiles g.C.LineMachine.machine g.C.Command.scan g.C.Command.begun g.C.Command.Says
      g.C.Command.about (g.F.Files.contents l.files) l.names l.initial.command after
      (g.W.Write.contents l.initial.output.inner) new 0 last;
  most : l.status ≤ 4;
  failed : l.initial.output.failed ≡ false → l.output.failed ≡ (l.status == 4);
}
