use Rattle.std.proofs.Common.{rules, ◌≡◌, true}
use Rattle.speedate_stream.proofs.SentLemmas.{OnlyWrites-front, OnlyWrites-next}
use Rattle.speedate_sort.proofs.SortLemmas.{named-line}
use Rattle.speedate_sort.proofs.merge.pass_named.Goals as goal

pub returns-in_err-pass_both : goal.returns-in_err-pass_both
returns-in_err-pass_both g c =
    let asked : c.args.keys.now.has_name ≡ true = search rules in
    record {
      printed = OnlyWrites-front _ c.args.line.now _ (search rules)
          c.in_err-pass_both.ensures.printed
          (named-line c.args.keys.now c.seen.result.now c.args.pending.now.items c.args.line.now
          asked c.seen.ensures.seen);
    }

pub returns : goal.returns
returns g c =
    let asked : c.args.keys.now.has_name ≡ true = search rules in
    record {
      printed = OnlyWrites-next c.args.line.now _ c.in_ok-pass_both.ensures.printed
          c.pass-2.ensures.sent
          (named-line c.args.keys.now c.seen.result.now c.args.pending.now.items c.args.line.now
          asked c.seen.ensures.seen);
    }
