use Rattle.std.proofs.Common.{◌∙◌, sym}
use Rattle.speedate_base.proofs.FaultLemmas.{name-short, name-distinct}
use Rattle.speedate_base.proofs.faults.ParseError.name.Goals as goal

pub returns-clause-short : goal.returns-clause-short
returns-clause-short c = rw c.name_text.ensures.name (name-short c.args.self.now)

pub returns-clause-distinct : goal.returns-clause-distinct
returns-clause-distinct c =
    λ other same. name-distinct c.args.self.now other (sym c.name_text.ensures.name ∙ same)
