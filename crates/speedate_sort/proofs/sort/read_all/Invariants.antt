use Rattle.std.proofs.Common.{◌≡◌, ◌-◌, ◌^◌}
use Rattle.speedate_sort.specs.Sort.{IsBegun, Reads}
use Rattle.speedate_sort.proofs.sort.read_all.Given as goal

-- what was read so far was appended
abbrev pub invariant-loop-count : goal.invariant-loop-count
invariant-loop-count g l = record {
  read : Reads (g.R.Read.remaining l.initial.input.inner) (g.R.Read.remaining l.input.inner)
      l.initial.text.items l.text.items;
  kept : IsBegun l.initial.text.items l.text.items;
  failed : l.input.failed ≡ l.initial.input.failed;
}

abbrev pub decreases-loop-count : goal.decreases-loop-count
decreases-loop-count g l = 2 ^ 64 - l.input.reads
