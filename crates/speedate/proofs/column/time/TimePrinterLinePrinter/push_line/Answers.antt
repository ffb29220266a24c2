use Rattle.std.proofs.Common.{ℕ, List, ◌++◌, ◌∙◌, ◌≡◌, ap, arith, sym, pos}
use Rattle.std.proofs.lemmas.Int.{ints}
use Rattle.speedate_civil.specs.Time.{microsecond_of_day, time_of_day, time_text}
use Rattle.speedate_civil.proofs.ValueLemmas.{is_time}
use Rattle.speedate.specs.ColumnText.{number_or}
use Rattle.speedate.proofs.PrintedLineLemmas.{time-reads, timestamp-offset}
use Rattle.speedate.proofs.column.time.TimePrinterLinePrinter.push_line.Goals as goal

pub returns-in-Ok-clause-reads_back : goal.returns-in-Ok-clause-reads_back
returns-in-Ok-clause-reads_back c answer refused reads =
    let time = time_of_day c.in-Ok.time in
    let text = time_text time in
    let whole = timestamp-offset _ _ time (sym c.in-Ok.ensures.answer) in
    let counted : pos (microsecond_of_day time) ≡ c.args.number =
    ap pos c.in-Ok.ensures.instant ∙ omega (arith, ints) in
    let bytes = c.push_onto.ensures.text
    ∙ ap (λ (front : List ℕ). front ++ text) c.requires.empty in
    ap (λ (line : List ℕ). number_or refused (answer line)) bytes
    ∙ time-reads answer refused c.args.number time reads (is_time c.in-Ok.time) whole counted
