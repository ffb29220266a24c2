use Rattle.std.proofs.Common.{◌≡◌, ◌+◌, ◌≤◌, ◌∙◌, List, ℕ, ap, subst, sym, arith, drop, length, min, take}
use Rattle.std.proofs.Math.Bool.{or-false}
use Rattle.std.proofs.lemmas.Grind.{elements}
use Rattle.std.proofs.lemmas.List.{take-append-le}
use Rattle.speedate.specs.Lines.{complete_lines}
use Rattle.speedate_commands.proofs.SearchLemmas.{IsCounted, counted-more, most}
use Rattle.speedate_commands.proofs.search.count_lines.Goals as goal

pub loop-at-preserved : goal.loop-at-preserved
loop-at-preserved g c =
    let known = g.S.ReadAt.text c.args.source.now in
    let buffer : List ℕ = c.read_at.new.buffer in
    let rest : List ℕ = drop c.min-room.result c.loop-at.block in
    let count = c.in_ok-count.count in
    let inside : count ≤ length buffer = grind (arith, elements) in
    let feeds = c.line_feeds.ensures.feeds
    ∙ ap (λ (l : List ℕ). length (complete_lines l)) (take-append-le count buffer rest inside) in
    let sum : c.saturating_add-number.result
    ≡ min (c.loop-at.number + length (complete_lines (take count buffer))) most =
    c.saturating_add-number.ensures
    ∙ ap (λ (n : ℕ). min (c.loop-at.number + n) most) feeds in
    record {
      ordered = omega (arith, c.loop-at.invariant.ordered);
      within = grind (arith, elements);
      failed = c.in_ok-count.ensures.failed ∙ or-false c.loop-at.failed
          ∙ c.loop-at.invariant.failed;
      counted = subst (IsCounted known c.args.number c.args.from (c.loop-at.at + count)) (sym sum)
          (counted-more known buffer c.args.number c.args.from c.loop-at.at count c.loop-at.number
          c.loop-at.invariant.ordered c.in_ok-count.ensures.bytes c.loop-at.invariant.counted);
    }
