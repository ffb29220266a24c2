use Rattle.std.proofs.Common.{refl, rules, sym}
use Rattle.speedate_civil.specs.DateTime.{date_and_time}
use Rattle.speedate.specs.declared.column.date_time.DateTimeParser.{DateTimeParser}
use Rattle.speedate.proofs.FrontNumberLemmas.{date_time_of_line-read}
use Rattle.speedate.proofs.column.date_time.DateTimeReader.number_or_timestamp.Goals as goal

pub returns-in-Ok : goal.returns-in-Ok
returns-in-Ok g c =
    let is = date_time_of_line-read (DateTimeParser.OrTimestamp c.args.config.now) c.args.line.now
    (date_and_time c.in-Ok.value) (sym c.in-Ok.ensures.answer) refl in
    search (rules, is)
