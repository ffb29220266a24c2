use Rattle.std.proofs.Common.{rules, ◌≡◌, ◌++◌, ◌∷◌, [], List, ℕ, length, append_assoc}
use Rattle.speedate_sort.specs.Sort.{Place, part}
use Rattle.speedate_sort.proofs.SortLemmas.{line-added}
use Rattle.speedate_sort.proofs.sort.append_line.Goals as goal

pub returns-clause-appended : goal.returns-clause-appended
returns-clause-appended c =
    let old : List ℕ = c.args.text.now.items in
    let other : Place = c.args.place.now in
    let more : List ℕ = c.args.prefix.now ++ part c.args.other.now other.from other.to in
    let before : List Place = c.args.places.now.items in
    let from = c.len-from.result in
    let to = c.len-to.result in
    let place : Place = record { instant = other.instant; from = from; to = to } in
    let pushed : c.push.new.self.items ≡ before ++ place ∷ [] = search rules in
    let whole : c.extend_from_slice-2.new.self.items ≡ old ++ more = search (rules, append_assoc) in
    let ends : to ≡ length c.extend_from_slice-2.new.self.items = search rules in
    rw (pushed, whole)
    (line-added old more before other.instant from to c.requires.within (search rules)
    (rw whole at ends))
