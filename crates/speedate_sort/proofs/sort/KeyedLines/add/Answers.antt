use Rattle.std.proofs.Common.{rules, ◌≡◌, false}
use Rattle.std.proofs.lemmas.Result.{on_ok_weaker}
use Rattle.speedate_sort.proofs.SortLemmas.{adds-bare}
use Rattle.speedate_sort.proofs.sort.KeyedLines.add.Goals as goal

pub returns-clause-added : goal.returns-clause-added
returns-clause-added g c =
    let none : c.args.keys.now.has_name ≡ false = search rules in
    on_ok_weaker c.add_bare.result (adds-bare none) c.add_bare.ensures.added

pub returns-clause-read_failed : goal.returns-clause-read_failed
returns-clause-read_failed g c =
    let none : c.args.keys.now.has_name ≡ false = search rules in
    λ failed. adds-bare none (c.add_bare.ensures.read_failed failed)
