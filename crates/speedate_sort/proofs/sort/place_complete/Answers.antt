use Rattle.std.proofs.Common.{◌≡◌, ap, ◌∙◌, ◌+◌, ◌++◌, ◌∷◌, [], sym, List, ℕ, drop, length, append_assoc, append-nil, arith}
use Rattle.speedate.specs.Lines.{IsOneLine, Pieces, complete_lines, unfinished_line}
use Rattle.speedate.proofs.LineLemmas.{pieces-from, pieces-rest}
use Rattle.speedate_sort.specs.Sort.{Keyed, Keys, bare_lines, key_after, keys_after, lines_at, part}
use Rattle.speedate_sort.proofs.SortLemmas.{bare_lines-append}
use Rattle.speedate_sort.proofs.sort.place_complete.Goals as goal

pub loop-end-preserved : goal.loop-end-preserved
loop-end-preserved c =
    let text : List ℕ = c.args.text.now in
    let before = c.loop-end.invariant in
    let keys : Keys = c.loop-end.keys in
    let start = c.loop-end.start in
    let end = c.in-Some.end in
    let line : List ℕ = part text start end in
    let others = complete_lines (drop (end + 1) text) in
    let lines : List Keyed = lines_at text c.loop-end.places.items in
    let here = pieces-from text start start end (omega arith)
    (λ k after below same. absurd (omega (arith, after, below))) c.in-Some.ensures.found in
    let is_after = sym c.in_ok-place_line.ensures.keys in
    let complete = ap (λ (all : Pieces). all.complete) here in
    record {
      inside = omega (arith, c.in-Some.ensures.found.within);
      within = c.in_ok-place_line.ensures.within;
      keys = rw complete at before.keys ∙ ap (λ (now : Keys). keys_after now others) is_after;
      placed = rw (
        complete,
        bare_lines-append keys (line ∷ []) others,
        ← append_assoc lines (bare_lines keys (line ∷ []))
            (bare_lines (key_after keys line) others),
        ← c.in_ok-place_line.ensures.placed,
      ) at before.placed
          ∙ ap (λ (now : Keys). lines_at text c.place_line.new.places.items
          ++ bare_lines now others) is_after;
      rest = before.rest ∙ ap (λ (all : Pieces). all.unfinished) here;
    }

-- without a line feed the rest is unfinished
unfinished-rest : (text : List ℕ) (start : ℕ) → IsOneLine text start (length text)
    → (complete_lines (drop start text) ≡ [])
    × (unfinished_line (drop start text) ≡ drop start text)
unfinished-rest text start none =
    let here = pieces-rest text start start
    (λ k after below same. absurd (omega (arith, after, below))) none in
    (ap (λ (all : Pieces). all.complete) here, ap (λ (all : Pieces). all.unfinished) here)

pub returns-clause-keys : goal.returns-clause-keys
returns-clause-keys c =
    let here = unfinished-rest c.args.text.now c.loop-end.start c.in_default.ensures.found in
    sym (rw here.0 at c.loop-end.invariant.keys)

pub returns-clause-placed : goal.returns-clause-placed
returns-clause-placed c =
    let here = unfinished-rest c.args.text.now c.loop-end.start c.in_default.ensures.found in
    sym (rw here.0 at c.loop-end.invariant.placed
    ∙ append-nil (lines_at c.args.text.now c.loop-end.places.items))

pub returns-clause-rest : goal.returns-clause-rest
returns-clause-rest c =
    let here = unfinished-rest c.args.text.now c.loop-end.start c.in_default.ensures.found in
    sym (c.loop-end.invariant.rest ∙ here.1)
