-- What is printed for a line, by its parts.
use Rattle.std.proofs.Common.{◌≡◌, ◌∙◌, ap, sym, refl, ℕ, List, [], ◌∷◌, ◌++◌, false, Option, Some, None, is_none}
use Rattle.std.proofs.lemmas.Bool.{false≢true}
use Rattle.speedate_base.specs.Ascii.{line_feed}
use Rattle.speedate_stream.specs.Machine.{part_of, rest_of}

-- a line that is printed itself ends with a line feed
pub rest_of-part : (rest same : Option ℕ) (line : List ℕ) → is_none rest ≡ false → rest ≡ same
    → rest_of same line ≡ part_of rest line ++ line_feed ∷ []
rest_of-part rest same line some is =
    let by_case : (other : Option ℕ) → is_none other ≡ false
    → rest_of other line ≡ part_of other line ++ line_feed ∷ [] = elim [
      | None ↦ λ none. absurd (false≢true (sym none))
      | Some from ↦ λ none. refl
    ] in
    ap (λ (other : Option ℕ). rest_of other line) (sym is) ∙ by_case rest some
