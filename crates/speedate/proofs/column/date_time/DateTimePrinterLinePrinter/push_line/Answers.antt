use Rattle.std.proofs.Common.{Some, pos, SFits, w64}
use Rattle.std.proofs.lemmas.Int.{to_z-of_z}
use Rattle.speedate.proofs.PrintedLineLemmas.{date_time-reads, line-no_control}
use Rattle.speedate.proofs.PrintedLineLemmas.{ok-turned, utc-whole}
use Rattle.speedate.proofs.column.date_time.DateTimePrinterLinePrinter.push_line.Goals as goal

pub returns-clause-no_control : goal.returns-clause-no_control
returns-clause-no_control c =
    let number_fits : SFits w64 c.args.number = c.ranges.number in
    line-no_control c.push_date_time.result (Some (pos 0)) c.args.number
    c.push_date_time.new.text.bytes utc-whole (simp to_z-of_z at c.push_date_time.ensures.shown)
    c.push_date_time.ensures.kept

pub returns-clause-reads_back : goal.returns-clause-reads_back
returns-clause-reads_back c =
    let number_fits : SFits w64 c.args.number = c.ranges.number in
    ok-turned c.push_date_time.result _ _ (λ shown answer refused reads.
    date_time-reads answer refused c.args.number c.push_date_time.new.text.bytes reads shown)
    (simp to_z-of_z at c.push_date_time.ensures.shown)
