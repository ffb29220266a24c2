use Rattle.std.proofs.Common.{arith, rules}
use Rattle.speedate_base.proofs.MarkLemmas.{IsOneLine-from_marks, IsLineEnd-from_marks}
use Rattle.speedate_base.proofs.lines.line_end.Goals as goal

pub returns-then-marks-ne0 : goal.returns-then-marks-ne0
returns-then-marks-ne0 c =
    let before = c.loop-place.invariant in
    let marks = c.line_feeds-marks.ensures.marks in
    record {
      found = IsLineEnd-from_marks c.args.text.now c.args.from c.loop-place.place _ before.after
          (omega (arith, before.within)) before.one_line marks (omega arith);
    }

pub loop-place-preserved : goal.loop-place-preserved
loop-place-preserved c = search (rules, IsOneLine-from_marks)
