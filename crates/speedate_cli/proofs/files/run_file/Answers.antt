use Rattle.std.proofs.Common.{◌∙◌, ℕ, List, Some, Option, ap, subst}
use Rattle.speedate_scan.specs.Scan.{is_without_value}
use Rattle.speedate_commands.specs.Status.{file_status}
use Rattle.speedate_cli.specs.Files.{Leaves}
use Rattle.speedate_cli.proofs.files.run_file.Goals as goal

pub returns-clause-ran : goal.returns-clause-ran
returns-clause-ran g c =
    let ended = c.run_input-ended.result.0 in
    let left = subst (λ (unread : Option (List ℕ)). Leaves g.C.LineMachine.machine
    g.C.Command.scan g.C.Command.begun g.C.Command.Says g.C.Command.about (Some ended)
    c.begin.new.self c.run_input-ended.new.command unread
    (g.W.Write.contents c.args.output.now.inner)
    (g.W.Write.contents c.run_input-ended.new.output.inner)) c.in-Some.ensures.contents
    c.run_input-ended.ensures.left in
    record {
      entry = c.as_bytes.result;
      named = c.as_bytes.ensures.value;
      ended = Some ended;
      status_is = c.tell_file.ensures.status
          ∙ ap (file_status ended) (c.is_without_value-is_without_value.ensures.without
          ∙ ap is_without_value c.scan-2.ensures.scan);
      left = subst (λ before. Leaves g.C.LineMachine.machine g.C.Command.scan g.C.Command.begun
          g.C.Command.Says g.C.Command.about (Some ended) before c.run_input-ended.new.command
          (g.F.Files.contents c.args.files.now c.args.name.now)
          (g.W.Write.contents c.args.output.now.inner)
          (g.W.Write.contents c.run_input-ended.new.output.inner)) c.begin.ensures.begun left;
    }
