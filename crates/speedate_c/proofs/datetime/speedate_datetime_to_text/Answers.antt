use Rattle.std.proofs.Common.{rules}
use Rattle.speedate_c.proofs.datetime.speedate_datetime_to_text.Goals as goal

pub returns-in_default-Some-eq0-clause-answer : goal.returns-in_default-Some-eq0-clause-answer
returns-in_default-Some-eq0-clause-answer c = search rules
