use Rattle.speedate_civil.proofs.Rfc3339Lemmas.{date-time-strict}
use Rattle.speedate_civil.proofs.datetime.DateTime.parse_bytes_strict.Goals as goal

pub returns-clause-standard : goal.returns-clause-standard
returns-clause-standard c =
    date-time-strict c.args.behavior c.args.bytes.now c.strict.result c.strict.ensures.answer
