use Rattle.std.proofs.Common.{rules, sym, List, ℕ, append_assoc}
use Rattle.speedate_stream.proofs.SentLemmas.{OnlyWrites-front, OnlyWrites-next}
use Rattle.speedate_sort.proofs.merge.pass_both.Goals as goal

pub returns-in_err-pass : goal.returns-in_err-pass
returns-in_err-pass g c =
    let second : List ℕ = c.args.second.now in
    record {
      printed = OnlyWrites-front _ second _ (search rules) c.in_err-pass.ensures.sent
          (sym (append_assoc c.args.pending.now.items c.args.first.now second));
    }

pub returns : goal.returns
returns g c =
    let second : List ℕ = c.args.second.now in
    record {
      printed = OnlyWrites-next second _ c.in_ok-pass.ensures.sent c.pass-2.ensures.sent
          (sym (append_assoc c.args.pending.now.items c.args.first.now second));
    }
