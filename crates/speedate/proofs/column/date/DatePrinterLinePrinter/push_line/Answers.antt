use Rattle.std.proofs.Common.{ℕ, List, ◌++◌, ◌∙◌, ap, SFits, w32}
use Rattle.std.proofs.lemmas.Int.{to_z-of_z}
use Rattle.speedate_civil.specs.Date.{date_text, ymd}
use Rattle.speedate_civil.proofs.ValueLemmas.{is_date}
use Rattle.speedate.specs.ColumnText.{number_or}
use Rattle.speedate.proofs.PrintedLineLemmas.{date-reads}
use Rattle.speedate.proofs.column.date.DatePrinterLinePrinter.push_line.Goals as goal

pub returns-in-Some-clause-reads_back : goal.returns-in-Some-clause-reads_back
returns-in-Some-clause-reads_back c answer refused reads =
    let number_fits : SFits w32 c.args.number = c.ranges.number in
    let date = c.in-Some.date in
    let text = date_text (ymd date) in
    let bytes = c.push_onto.ensures.text
    ∙ ap (λ (front : List ℕ). front ++ text) c.requires.empty in
    ap (λ (line : List ℕ). number_or refused (answer line)) bytes
    ∙ date-reads answer refused c.args.number (ymd date) reads (is_date date)
    (simp to_z-of_z at c.in-Some.ensures.counted)
