use Rattle.std.proofs.Common.{◌≡◌, ◌-◌, ◌≤◌, length}
use Rattle.speedate_scan.specs.Field.{field_after, mark_length}
use Rattle.speedate_scan.proofs.field.NthField.find.Given as goal

abbrev pub invariant-loop-others : goal.invariant-loop-others
invariant-loop-others l = record {
  within : l.start ≤ length l.text;
  same : field_after l.self.separator l.text (mark_length l.text) (l.self.number - 1)
      ≡ field_after l.self.separator l.text l.start l.others;
}

abbrev pub decreases-loop-others : goal.decreases-loop-others
decreases-loop-others l = l.others
