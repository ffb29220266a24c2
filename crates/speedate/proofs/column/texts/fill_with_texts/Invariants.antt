use Rattle.std.proofs.Common.{◌-◌, ◌≤◌, ℕ, List, drop, length, take}
use Rattle.speedate.specs.Column.{column}
use Rattle.speedate.specs.Texts.{cut_at}
use Rattle.speedate.proofs.ColumnLemmas.{IsSoFar}
use Rattle.speedate.proofs.column.texts.fill_with_texts.Given as goal

-- what is written so far and the column of the texts that are left make the whole column
abbrev pub invariant-loop-lines : goal.invariant-loop-lines
invariant-loop-lines g l =
    let answer = g.R.LineReader.answer l.reader in
    let texts : List (List ℕ) = take l.count (cut_at l.offsets l.bytes) in
    record {
      read : l.lines ≤ l.count;
      room : l.count ≤ length l.out;
      so_far : IsSoFar (column answer l.refused texts)
          (column answer l.refused (drop l.lines texts))
          l.lines l.initial.out l.out l.initial.errors l.errors;
    }

abbrev pub decreases-loop-lines : goal.decreases-loop-lines
decreases-loop-lines g l = l.count - l.lines
