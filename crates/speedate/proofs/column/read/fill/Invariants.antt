use Rattle.std.proofs.Common.{◌≤◌, ◌-◌, length}
use Rattle.speedate.specs.Column.{text_column}
use Rattle.speedate.proofs.ColumnLemmas.{IsLeft, IsSoFar}
use Rattle.speedate.proofs.column.read.fill.Given as goal

-- what is written so far and the column of the lines that are left make the whole column
abbrev pub invariant-loop-lines : goal.invariant-loop-lines
invariant-loop-lines g l =
    let answer = g.R.LineReader.answer l.reader in
    record {
      room : l.lines ≤ length l.out;
      within : length l.rest ≤ length l.text;
      left : IsLeft l.config.at_end l.text l.rest l.lines;
      so_far : IsSoFar (text_column answer l.config l.refused (length l.initial.out) l.text)
          (text_column answer l.config l.refused (length l.out - l.lines) l.rest)
          l.lines l.initial.out l.out l.initial.errors l.errors;
    }

abbrev pub decreases-loop-lines : goal.decreases-loop-lines
decreases-loop-lines g l = length l.out - l.lines
