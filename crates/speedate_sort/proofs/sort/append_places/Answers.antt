use Rattle.std.proofs.Common.{◌∙◌, ◌++◌, ◌+◌, ◌∷◌, [], ap, sym, refl, List, ℕ, drop, map}
use Rattle.speedate_sort.specs.Sort.{Keyed, Place, line_at, lines_at, prefixed}
use Rattle.speedate_sort.proofs.SortLemmas.{left-end, left-step}
use Rattle.speedate_sort.proofs.sort.append_places.Goals as goal

pub loop-place-preserved : goal.loop-place-preserved
loop-place-preserved c =
    let other : List ℕ = c.args.other.now in
    let prefix : List ℕ = c.args.prefix.now in
    let index = c.loop-place.place-index in
    let so_far : List Keyed = lines_at c.loop-place.text.items c.loop-place.places.items in
    let all = λ (places : List Place). map (prefixed prefix) (lines_at other places) in
    record {
      within = c.in_ok-append_line.ensures.within;
      appended = c.loop-place.invariant.appended
          ∙ left-step (λ place. prefixed prefix (line_at other place) ∷ []) all (λ x xs. refl)
          so_far c.args.others.now index _ c.loop-place-test.true
          ∙ ap (λ (lines : List Keyed). lines ++ all (drop (index + 1) c.args.others.now))
          (sym c.in_ok-append_line.ensures.appended);
    }

pub returns-clause-appended : goal.returns-clause-appended
returns-clause-appended c =
    sym (c.loop-place.invariant.appended
    ∙ left-end (λ places. map (prefixed c.args.prefix.now) (lines_at c.args.other.now places)) refl
    (lines_at c.loop-place.text.items c.loop-place.places.items) c.args.others.now
    c.loop-place.place-index c.loop-place-test.false)
