use Rattle.std.proofs.Common.{rules, ◌<◌, ◌≡◌, ◌∙◌, ap, ℕ, drop, take, None, Some, Ok, Err, arith, refl}
use Rattle.std.proofs.lemmas.List.{length-set}
use Rattle.speedate.specs.Column.{column}
use Rattle.speedate.specs.Texts.{cut_at}
use Rattle.speedate.proofs.ColumnLemmas.{IsSoFar-more, IsSoFar-none, IsSoFar-whole}
use Rattle.speedate.proofs.TextsLemmas.{column-end, column-next, offset-positive, taken-next}
use Rattle.speedate.proofs.column.texts.fill_with_texts.Goals as goal

pub loop-lines-init : goal.loop-lines-init
loop-lines-init g c = search (rules, IsSoFar-none)

pub loop-lines-preserved : goal.loop-lines-preserved
loop-lines-preserved g c =
    let before = c.loop-lines.invariant in
    let lines : ℕ = c.loop-lines.lines in
    let texts = cut_at c.args.offsets.now c.args.bytes.now in
    let inside : lines < c.args.count = omega (arith, c.loop-lines-test.true) in
    let next = taken-next texts lines c.args.count c.text_at-text.result.now inside
    c.text_at-text.ensures.text in
    let is = column-next (g.R.LineReader.answer c.args.reader.now) c.args.refused
    (take c.args.count texts) lines c.text_at-text.result.now c.text_number.result
    (Ok c.in-Ok.entry) next c.text_number.ensures.answer c.in-Ok.ensures.entry in
    record {
      read = omega (arith, inside);
      room = omega (arith, before.room, length-set c.loop-lines.out lines c.in-Ok.entry.0);
      so_far = IsSoFar-more _ _ _ lines _ _ c.loop-lines.out _ _ _ _ c.in-Ok.entry before.so_far is
          refl refl c.put.ensures.put;
    }

pub offset_at-requires : goal.offset_at-requires
offset_at-requires g c = search (rules, offset-positive)

pub offset_at-requires-2 : goal.offset_at-requires-2
offset_at-requires-2 g c = search (rules, offset-positive)

pub returns-in-Err : goal.returns-in-Err
returns-in-Err g c =
    let lines : ℕ = c.loop-lines.lines in
    let texts = cut_at c.args.offsets.now c.args.bytes.now in
    let inside : lines < c.args.count = omega (arith, c.loop-lines-test.true) in
    let next = taken-next texts lines c.args.count c.text_at-text.result.now inside
    c.text_at-text.ensures.text in
    let ended = column-next (g.R.LineReader.answer c.args.reader.now) c.args.refused
    (take c.args.count texts) lines c.text_at-text.result.now c.text_number.result
    (Err c.in-Err.error) next c.text_number.ensures.answer c.in-Err.ensures.entry in
    let so_far = c.loop-lines.invariant.so_far in
    let all = IsSoFar-whole _ _ (Some c.in-Err.error) _ _ _ _ _ so_far ended in
    search (rules, next, all)

pub returns : goal.returns
returns g c =
    let before = c.loop-lines.invariant in
    let texts = cut_at c.args.offsets.now c.args.bytes.now in
    let answer = g.R.LineReader.answer c.args.reader.now in
    let all_read : c.loop-lines.lines ≡ c.args.count =
    omega (arith, before.read, c.loop-lines-test.false) in
    let ended = ap (λ (n : ℕ). column answer c.args.refused (drop n (take c.args.count texts)))
    all_read ∙ column-end answer c.args.refused texts c.args.count in
    let all = IsSoFar-whole _ _ None _ _ _ _ _ before.so_far ended in
    search (rules, all)
