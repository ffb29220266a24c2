use Rattle.std.proofs.Common.{rules, ◌+◌, ◌-◌, ◌≡◌, ℕ, List, length, set, None, Some, Ok, Err, arith, refl}
use Rattle.std.proofs.lemmas.List.{take_rest, length-drop, length-set}
use Rattle.speedate.proofs.ColumnLemmas.{IsLeft-more, IsSoFar-more}
use Rattle.speedate.proofs.ColumnLemmas.{IsSoFar-whole, text_column-first}
use Rattle.speedate.proofs.ColumnLemmas.{text_column-full, text_column-none}
use Rattle.speedate.proofs.column.read.fill.Goals as goal

pub loop-lines-init : goal.loop-lines-init
loop-lines-init g c =
    let all : length c.args.out.now ≡ length c.args.out.now - 0 = omega arith in
    search (rules, all)

pub loop-lines-preserved : goal.loop-lines-preserved
loop-lines-preserved g c =
    let before = c.loop-lines.invariant in
    let rest : List ℕ = c.loop-lines.rest.now in
    let lines : ℕ = c.loop-lines.lines in
    let out = c.loop-lines.out in
    let line = c.in-Some.line in
    let held = c.in-Ok.entry in
    let found = c.in-Some.ensures.line in
    let next : ℕ = length (set out lines held.0) - (lines + 1) in
    let more : length out - lines ≡ next + 1 =
    omega (arith, c.loop-lines-test.true, length-set out lines held.0) in
    let is = text_column-first _ _ c.args.refused _ next rest line (Ok held) found more
    c.in-Ok.ensures.entry in
    rw (take_rest rest line.size) (record {
      room = omega (arith, c.loop-lines-test.true, length-set out lines held.0);
      within = omega (arith, before.within, length-drop line.size rest);
      left = IsLeft-more c.args.config c.args.text.now rest _ line.size lines before.within
          before.left found.first;
      so_far = IsSoFar-more _ _ _ lines _ _ out _ _ _ _ held before.so_far is refl refl
          c.put.ensures.put;
    })

pub returns-in_default : goal.returns-in_default
returns-in_default g c =
    let before = c.loop-lines.invariant in
    let none = text_column-none _ _ _ _ _ c.in_default.ensures.line in
    let all = IsSoFar-whole _ _ None _ _ _ _ _ before.so_far none in
    search (rules, before, all)

pub returns-in-Err : goal.returns-in-Err
returns-in-Err g c =
    let before = c.loop-lines.invariant in
    let left : ℕ = length c.loop-lines.out - c.loop-lines.lines in
    let more : left ≡ (left - 1) + 1 = omega (arith, c.loop-lines-test.true) in
    let ended = text_column-first _ _ c.args.refused _ _ _ c.in-Some.line (Err c.in-Err.error)
    c.in-Some.ensures.line more c.in-Err.ensures.entry in
    let all = IsSoFar-whole _ _ (Some c.in-Err.error) _ _ _ _ _ before.so_far ended in
    search (rules, before, all)

pub returns : goal.returns
returns g c =
    let before = c.loop-lines.invariant in
    let full : length c.loop-lines.out - c.loop-lines.lines ≡ 0 =
    omega (arith, c.loop-lines-test.false) in
    let all = IsSoFar-whole _ _ None _ _ _ _ _ before.so_far (text_column-full _ _ _ _ _ full) in
    search (rules, before, all)
