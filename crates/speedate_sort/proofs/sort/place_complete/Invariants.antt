use Rattle.std.proofs.Common.{◌≡◌, ◌-◌, ◌++◌, ◌≤◌, All, length, drop}
use Rattle.speedate.specs.Lines.{complete_lines, unfinished_line}
use Rattle.speedate_sort.specs.Sort.{IsPlaced, bare_lines, keys_after, lines_at}
use Rattle.speedate_sort.proofs.sort.place_complete.Given as goal

-- the lines so far, and those from `start` on, are the lines from `from` on
abbrev pub invariant-loop-end : goal.invariant-loop-end
invariant-loop-end l = record {
  inside : l.start ≤ length l.text;
  within : All (IsPlaced l.text) l.places.items;
  keys : keys_after l.initial.keys (complete_lines (drop l.from l.text))
      ≡ keys_after l.keys (complete_lines (drop l.start l.text));
  placed : lines_at l.text l.initial.places.items
      ++ bare_lines l.initial.keys (complete_lines (drop l.from l.text))
      ≡ lines_at l.text l.places.items
      ++ bare_lines l.keys (complete_lines (drop l.start l.text));
  rest : unfinished_line (drop l.from l.text) ≡ unfinished_line (drop l.start l.text);
}

abbrev pub decreases-loop-end : goal.decreases-loop-end
decreases-loop-end l = length l.text - l.start
