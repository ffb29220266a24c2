use Rattle.std.proofs.Common.{arith}
use Rattle.speedate_scan.proofs.WordLemmas.{either_unset, other_byte, other_first, other_next}
use Rattle.speedate_scan.proofs.WordLemmas.{other_second}
use Rattle.speedate_scan.proofs.claim.begins_at.Goals as goal

pub returns-then-word-eq1 : goal.returns-then-word-eq1
returns-then-word-eq1 c = record {
  elsewhere = λ k within unmarked.
      other_first c.args.word.now c.args.text.now k c.requires.some (omega (arith, c.requires.long))
      (other_byte _ c.args.text.now k within (omega (arith, c.requires.long))
      (rw c.equal_lanes-firsts.ensures.marks at unmarked));
}

pub returns : goal.returns
returns c = record {
  elsewhere = λ k within unmarked.
      either_unset _ _ k unmarked
      (λ first. other_first c.args.word.now c.args.text.now k c.requires.some
      (omega (arith, c.requires.long))
      (other_byte _ c.args.text.now k within (omega (arith, c.requires.long))
      (rw c.equal_lanes-firsts.ensures.marks at first)))
      (λ second. other_second c.args.word.now c.args.text.now k (omega arith)
      (omega (arith, c.requires.long))
      (other_next _ c.args.text.now k within (omega (arith, c.requires.long))
      (rw c.equal_lanes.ensures.marks at second)));
}
