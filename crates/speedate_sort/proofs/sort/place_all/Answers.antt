use Rattle.std.proofs.Common.{rules, ◌≡◌, ◌∙◌, ◌++◌, ◌∷◌, [], ap, sym, List, ℕ, drop, append_assoc}
use Rattle.speedate.specs.Ascii.{line_feed}
use Rattle.speedate.specs.Lines.{complete_lines}
use Rattle.speedate_sort.specs.Sort.{Keyed, Keys, Place, bare_lines, key_after, keys_after}
use Rattle.speedate_sort.specs.Sort.{lines_at, part}
use Rattle.speedate_sort.proofs.SortLemmas.{bare_lines-append, keys_after-append, lines-ended}
use Rattle.speedate_sort.proofs.SortLemmas.{lines_at-grown}
use Rattle.speedate_sort.proofs.sort.place_all.Goals as goal

pub returns-in_ok-place_line-clause-keys : goal.returns-in_ok-place_line-clause-keys
returns-in_ok-place_line-clause-keys c =
    let text : List ℕ = c.deref.result.now in
    let new : List ℕ = c.deref-then-start-end.result.now in
    let line : List ℕ = part new c.in_ok-start.start c.len-end.result in
    let keys : Keys = c.args.keys.now in
    let fed : new ≡ text ++ line_feed ∷ [] = search rules in
    let all = lines-ended text new c.args.from c.in_ok-start.start c.len-end.result fed
    (search rules) c.if-start-end.true c.in_ok-start.ensures.rest in
    rw (sym c.deref.ensures.value)
    (c.in_ok-place_line.ensures.keys
    ∙ ap (λ (now : Keys). key_after now line) c.in_ok-start.ensures.keys
    ∙ sym (ap (keys_after keys) all
    ∙ keys_after-append keys (complete_lines (drop c.args.from text)) (line ∷ [])))

pub returns-in_ok-place_line-clause-placed : goal.returns-in_ok-place_line-clause-placed
returns-in_ok-place_line-clause-placed c =
    let text : List ℕ = c.deref.result.now in
    let new : List ℕ = c.deref-then-start-end.result.now in
    let line : List ℕ = part new c.in_ok-start.start c.len-end.result in
    let keys : Keys = c.args.keys.now in
    let complete : List (List ℕ) = complete_lines (drop c.args.from text) in
    let before : List Keyed = lines_at text c.args.places.now.items in
    let middle : List Place = c.place_complete.new.places.items in
    let fed : new ≡ text ++ line_feed ∷ [] = search rules in
    let all = lines-ended text new c.args.from c.in_ok-start.start c.len-end.result fed
    (search rules) c.if-start-end.true c.in_ok-start.ensures.rest in
    let so_far = ap (λ (bytes : List ℕ). lines_at bytes middle) fed
    ∙ lines_at-grown text (line_feed ∷ []) middle c.in_ok-start.ensures.within
    ∙ c.in_ok-start.ensures.placed in
    rw (sym c.deref.ensures.value, sym c.deref-then-start-end.ensures.value)
    (c.in_ok-place_line.ensures.placed
    ∙ ap (λ (l : List Keyed). l ++ bare_lines c.place_complete.new.keys (line ∷ [])) so_far
    ∙ ap (λ (now : Keys). (before ++ bare_lines keys complete) ++ bare_lines now (line ∷ []))
    c.in_ok-start.ensures.keys
    ∙ append_assoc before (bare_lines keys complete)
    (bare_lines (keys_after keys complete) (line ∷ []))
    ∙ sym (ap (λ (l : List (List ℕ)). before ++ bare_lines keys l) all
    ∙ ap (λ (l : List Keyed). before ++ l) (bare_lines-append keys complete (line ∷ []))))
