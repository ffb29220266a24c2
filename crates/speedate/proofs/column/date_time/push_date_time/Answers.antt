use Rattle.std.proofs.Common.{rules}
use Rattle.std.proofs.lemmas.Int.{to_z-of_z}
use Rattle.speedate_base.proofs.TimestampLemmas.{instant_at-microsecond}
use Rattle.speedate_civil.proofs.ValueLemmas.{is_date_and_time}
use Rattle.speedate.proofs.column.date_time.push_date_time.Goals as goal

pub returns-in-Ok-clause-shown : goal.returns-in-Ok-clause-shown
returns-in-Ok-clause-shown c = search (rules, to_z-of_z, instant_at-microsecond, is_date_and_time)
