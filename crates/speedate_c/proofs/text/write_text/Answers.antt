use Rattle.std.proofs.Common.{rules}
use Rattle.speedate_c.proofs.text.write_text.Goals as goal

pub returns-then-size-buffer-clause-after : goal.returns-then-size-buffer-clause-after
returns-then-size-buffer-clause-after c = search rules
