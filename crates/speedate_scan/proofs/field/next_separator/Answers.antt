use Rattle.std.proofs.Common.{rules}
use Rattle.speedate_scan.proofs.FieldLemmas.{no_separator_after}
use Rattle.speedate_scan.proofs.field.next_separator.Goals as goal

pub returns-in-None-clause-separator : goal.returns-in-None-clause-separator
returns-in-None-clause-separator c =
    no_separator_after c.args.separator c.args.text.now c.args.from c.requires.from (search rules)
