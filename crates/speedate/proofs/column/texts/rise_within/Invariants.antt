use Rattle.std.proofs.Common.{◌≡◌, ◌≤ℤ◌, drop, pos}
use Rattle.speedate.specs.Texts.{rise_within}
use Rattle.speedate.proofs.column.texts.rise_within.Given as goal

-- whether the offsets rise from here on is whether all do
abbrev pub invariant-loop-offset : goal.invariant-loop-offset
invariant-loop-offset l = record {
  positive : pos 0 ≤ℤ l.least;
  rise : rise_within (pos 0) l.size l.offsets
      ≡ rise_within l.least l.size (drop l.offset-index l.offsets);
}
