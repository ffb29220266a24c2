use Rattle.std.proofs.Common.{None, SFits, w64}
use Rattle.std.proofs.lemmas.Int.{to_z-of_z}
use Rattle.speedate.proofs.PrintedLineLemmas.{clock-reads, line-no_control, ok-turned, none-whole}
use Rattle.speedate.proofs.column.clock.DateTimeClockPrinterLinePrinter.push_line.Goals as goal

pub returns-clause-no_control : goal.returns-clause-no_control
returns-clause-no_control c =
    let number_fits : SFits w64 c.args.number = c.ranges.number in
    line-no_control c.push_date_time.result None c.args.number
    c.push_date_time.new.text.bytes none-whole (simp to_z-of_z at c.push_date_time.ensures.shown)
    c.push_date_time.ensures.kept

pub returns-clause-reads_back : goal.returns-clause-reads_back
returns-clause-reads_back c =
    let number_fits : SFits w64 c.args.number = c.ranges.number in
    ok-turned c.push_date_time.result _ _ (λ shown answer refused reads.
    clock-reads answer refused c.args.number c.push_date_time.new.text.bytes reads shown)
    (simp to_z-of_z at c.push_date_time.ensures.shown)
