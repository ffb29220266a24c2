use Rattle.std.proofs.Common.{rules, arith, length, pos}
use Rattle.std.proofs.lemmas.Int.{ints}
use Rattle.speedate.proofs.TextsLemmas.{IsOffset-next, cut_at-next, offset-positive}
use Rattle.speedate.proofs.column.texts.text_at.Goals as goal

pub offset_at-start-requires : goal.offset_at-start-requires
offset_at-start-requires c = search (rules, offset-positive)

pub offset_at-end-requires : goal.offset_at-end-requires
offset_at-end-requires c = search (rules, offset-positive)

pub slice_bounds-result-count : goal.slice_bounds-result-count
slice_bounds-result-count c =
    let next = IsOffset-next (pos 0) (length c.args.bytes.now) c.args.offsets.now c.args.place
    c.requires.rise c.requires.within in
    omega (arith, ints, next.after, c.offset_at-start.ensures, c.offset_at-end.ensures)

pub slice_bounds-result-start : goal.slice_bounds-result-start
slice_bounds-result-start c =
    let next = IsOffset-next (pos 0) (length c.args.bytes.now) c.args.offsets.now c.args.place
    c.requires.rise c.requires.within in
    omega (arith, ints, next.after, next.within, c.offset_at-start.ensures, c.offset_at-end.ensures)

pub slice_bounds-result-end : goal.slice_bounds-result-end
slice_bounds-result-end c =
    let next = IsOffset-next (pos 0) (length c.args.bytes.now) c.args.offsets.now c.args.place
    c.requires.rise c.requires.within in
    omega (arith, ints, next.after, next.within, c.offset_at-start.ensures, c.offset_at-end.ensures)

pub returns : goal.returns
returns c = search (rules, cut_at-next)
