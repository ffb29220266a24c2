use Rattle.std.proofs.Common.{rules, ◌≡◌, ◌+◌, ◌++◌, ◌∷◌, [], sym, refl, List, ℕ}
use Rattle.std.proofs.lemmas.List.{map-append}
use Rattle.speedate_sort.specs.Sort.{Place, line_at, part}
use Rattle.speedate_sort.proofs.SortLemmas.{one-line, part-ended}
use Rattle.speedate_sort.proofs.sort.place_line.Goals as goal

pub returns-in_ok-push-clause-placed : goal.returns-in_ok-push-clause-placed
returns-in_ok-push-clause-placed c =
    let text : List ℕ = c.args.text.now in
    let from = c.args.from in
    let end = c.args.end in
    let before : List Place = c.args.places.now.items in
    let place : Place = record { instant = c.in-Some.instant; from = from; to = end + 1 } in
    let pushed : c.push.new.self.items ≡ before ++ place ∷ [] = search rules in
    rw (
      pushed,
      map-append (line_at text) before (place ∷ []),
      part-ended text from end c.requires.ordered c.requires.inside c.requires.ends,
      one-line c.args.keys.now (part text from end) c.in-Some.instant (sym c.in-Some.ensures.key),
    ) refl
