use Rattle.std.proofs.Common.{◌≡◌, ◌++◌, All, drop, map}
use Rattle.speedate_sort.specs.Sort.{IsPlaced, lines_at, prefixed}
use Rattle.speedate_sort.proofs.sort.append_places.Given as goal

-- the lines so far, and those at the places that are left, are all
abbrev pub invariant-loop-place : goal.invariant-loop-place
invariant-loop-place l = record {
  within : All (IsPlaced l.text.items) l.places.items;
  appended : lines_at l.initial.text.items l.initial.places.items
      ++ map (prefixed l.prefix) (lines_at l.other l.others)
      ≡ lines_at l.text.items l.places.items
      ++ map (prefixed l.prefix) (lines_at l.other (drop l.place-index l.others));
}
