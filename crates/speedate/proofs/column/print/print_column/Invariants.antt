use Rattle.std.proofs.Common.{◌≡◌, ◌-◌, ◌≤◌, length, drop, take}
use Rattle.speedate.specs.ColumnText.{column_text}
use Rattle.speedate.proofs.ColumnTextLemmas.{IsPrintedSoFar, IsReadSoFar}
use Rattle.speedate.proofs.column.print.print_column.Given as goal

-- what is printed so far and the text of the numbers that are left make the whole text
abbrev pub invariant-loop-lines : goal.invariant-loop-lines
invariant-loop-lines g l =
    let printer = g.P.LinePrinter in
    let line = printer.line l.printer in
    record {
      room : l.lines ≤ length l.numbers;
      within : l.bytes ≤ length l.out;
      long : length l.out ≡ length l.initial.out;
      so_far : IsPrintedSoFar (column_text line (length l.initial.out) l.numbers)
          (column_text line (length l.out - l.bytes) (drop l.lines l.numbers))
          l.lines l.bytes l.initial.out l.out;
      reads : IsReadSoFar (printer.leads_back l.printer) (take l.bytes l.out)
          (take l.lines l.numbers);
    }

abbrev pub decreases-loop-lines : goal.decreases-loop-lines
decreases-loop-lines g l = length l.numbers - l.lines
