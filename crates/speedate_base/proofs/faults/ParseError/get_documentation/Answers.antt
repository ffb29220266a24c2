use Rattle.speedate_base.proofs.FaultLemmas.{documentation-short}
use Rattle.speedate_base.proofs.faults.ParseError.get_documentation.Goals as goal

pub returns-clause-short : goal.returns-clause-short
returns-clause-short c =
    rw c.documentation_text.ensures.documentation (documentation-short c.args.self.now)
