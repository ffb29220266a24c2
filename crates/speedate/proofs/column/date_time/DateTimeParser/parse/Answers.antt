use Rattle.std.proofs.Common.{rules}
use Rattle.speedate_civil.specs.DateTime.{date_and_time}
use Rattle.speedate.proofs.FrontNumberLemmas.{date_time_of_line-read, date_time_of_line-untaken}
use Rattle.speedate.proofs.FrontNumberLemmas.{strict_faults}
use Rattle.speedate.proofs.column.date_time.DateTimeParser.parse.Goals as goal

pub returns-in_err-value : goal.returns-in_err-value
returns-in_err-value c = search (rules, strict_faults)

pub returns-in-Ok : goal.returns-in-Ok
returns-in-Ok c =
    let is = date_time_of_line-read c.args.self.now c.args.line.now
    (date_and_time c.in_ok-value.value) (search rules) (search rules) in
    search (rules, is)

pub returns-in-Err : goal.returns-in-Err
returns-in-Err c =
    let is = date_time_of_line-untaken c.args.self.now c.args.line.now
    (date_and_time c.in_ok-value.value) c.in-Err.fault (search rules) (search rules) in
    search (rules, is)
