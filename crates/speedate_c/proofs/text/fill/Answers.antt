use Rattle.std.proofs.Common.{◌≡◌, ℕ, ◌+◌, ◌<◌, List, ◌∷◌, ◌++◌, length, drop, get_or, slice_set, ap, ◌∙◌}
use Rattle.std.proofs.Math.Seq.{set-append_seam}
use Rattle.std.proofs.lemmas.List.{at_drop_more}
use Rattle.speedate_c.proofs.text.fill.Goals as goal

-- the byte after the text is set, and the others stay
terminated : (text buffer : List ℕ) → length text < length buffer
    → slice_set (text ++ drop (length text) buffer) (length text) 0
    ≡ text ++ 0 ∷ drop (length text + 1) buffer
terminated text buffer room =
    at_drop_more (λ rest. slice_set (text ++ rest) (length text) 0) buffer (length text) 0 room
    ∙ set-append_seam text (get_or buffer (length text) 0) (drop (length text + 1) buffer) 0

pub returns : goal.returns
returns c =
    let text = c.args.text.now in
    let buffer = c.args.buffer.now in
    record {
      front =
          ap (λ front. slice_set (front ++ drop (length text) buffer) (length text) 0)
          (c.copy_from_slice.ensures.after ∙ c.as_bytes.ensures.value)
          ∙ terminated text buffer c.requires.room;
    }
