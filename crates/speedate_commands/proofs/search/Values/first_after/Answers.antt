use Rattle.std.proofs.Common.{rules, ◌≡◌, arith, to_z, of_z, FitsSigned}
use Rattle.std.specs.Int.{w128}
use Rattle.std.proofs.lemmas.Int.{ints}
use Rattle.speedate_commands.proofs.SearchLemmas.{known-value-at}
use Rattle.speedate_commands.proofs.search.Values.first_after.Goals as goal

pub returns-in-Some-checked_add-clause-found : goal.returns-in-Some-checked_add-clause-found
returns-in-Some-checked_add-clause-found g c =
    let line = c.in-Some.line in
    let fits : FitsSigned w128 line.instant = search rules in
    let same : to_z w128 (of_z w128 line.instant) ≡ line.instant = omega (arith, ints) in
    known-value-at (g.S.ReadAt.text c.args.source.now) c.args.self.now.reader
    c.args.self.now.has_offset c.read_at.new.buffer c.args.place c.in_ok-count.count line.at
    c.in-Some-checked_add.at line.instant _ c.in_ok-count.ensures.bytes c.in-Some.ensures.found
    c.in-Some-checked_add.ensures.1 same
