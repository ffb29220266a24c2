use Rattle.std.proofs.Common.{rules}
use Rattle.speedate_civil.specs.DateTime.{date_and_time}
use Rattle.speedate_civil.proofs.DateTimeInstantLemmas.{date_time_timestamp-instant}
use Rattle.speedate_civil.proofs.ReadLemmas.{read-result}
use Rattle.speedate_civil.proofs.datetime.DateTime.from_timestamp_with_config.Goals as goal

pub returns-clause-answer : goal.returns-clause-answer
returns-clause-answer c = search rules

pub returns-clause-instant : goal.returns-clause-instant
returns-clause-instant c =
    let config = c.args.config.now in
    read-result date_and_time _ c.from_unix_time.result _ (returns-clause-answer c)
    (date_time_timestamp-instant config.timestamp_unit config.time_config.unix_timestamp_offset
    c.args.timestamp_microsecond c.args.timestamp)
