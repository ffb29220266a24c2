use Rattle.speedate_civil.proofs.Rfc3339Lemmas.{time-strict}
use Rattle.speedate_civil.proofs.time.Time.parse_bytes_strict.Goals as goal

pub returns-clause-standard : goal.returns-clause-standard
returns-clause-standard c =
    time-strict c.args.behavior c.args.bytes.now c.strict.result c.strict.ensures.answer
