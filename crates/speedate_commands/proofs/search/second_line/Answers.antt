use Rattle.std.proofs.Common.{◌∙◌, arith}
use Rattle.std.proofs.Math.Bool.{or-false}
use Rattle.std.proofs.lemmas.Grind.{elements}
use Rattle.speedate_commands.proofs.SearchLemmas.{feed-checked, no_feed-more}
use Rattle.speedate_commands.proofs.search.second_line.Goals as goal

pub returns-in-Some-clause-second : goal.returns-in-Some-clause-second
returns-in-Some-clause-second g c =
    feed-checked (g.S.ReadAt.text c.args.source.now) c.read_at.new.buffer c.loop.at
    c.in_ok-count.count c.in-Some.end c.checked_add.result _ c.in_ok-count.ensures.bytes
    c.loop.invariant.none c.in-Some.ensures.found c.checked_add.ensures

pub loop-preserved : goal.loop-preserved
loop-preserved g c =
    record {
      none = no_feed-more (g.S.ReadAt.text c.args.source.now) c.read_at.new.buffer c.loop.at
          c.in_ok-count.count c.saturating_add-at.result c.in_ok-count.ensures.bytes
          c.loop.invariant.none c.in_default.ensures.found (grind (arith, elements))
          (omega (arith, c.saturating_add-at.ensures));
      failed = c.in_ok-count.ensures.failed ∙ or-false c.loop.failed ∙ c.loop.invariant.failed;
    }
