use Rattle.std.proofs.Common.{◌∙◌, Some, ap}
use Rattle.speedate_commands.specs.Status.{file_status}
use Rattle.speedate_cli.proofs.sort_session.add_file.Goals as goal

pub returns : goal.returns
returns c =
    let ended = c.match-added.ended in
    record {
      status = (
        Some ended,
        c.tell_file.ensures.status
            ∙ ap (file_status ended) c.is_without_value-is_without_value.ensures.without,
      );
    }
