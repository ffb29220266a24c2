-- What the marks of a vector of bytes tell of the places of a text.
use Rattle.std.proofs.Common.{◌≡◌, ◌∙◌, ap, sym, ℕ, ◌+◌, ◌<◌, ◌≤◌, List, [], ◌∷◌, length, map, get_or, arith, inl, inr, refl}
use Rattle.std.proofs.lemmas.Bool.{cases_lt, eqb-true, eqb-false, ne_eqb}
use Rattle.std.proofs.lemmas.Simd.{length-chunk, get_or-chunk, trailing_mask_l, run_in_chunk_fails, run_in_chunk_stops, none_from_empty_mask}
use Rattle.std.proofs.lemmas.List.Elements.{All-head, All-tail, All-from_get_or}
use lib.Lanes.{chunk, mask_l}
use lib.Count.{count_trailing_zeros}
use Rattle.speedate_base.specs.Ascii.{line_feed}
use Rattle.speedate_base.specs.Lines.{is_line_feed, IsOneLine, IsLineEnd}
use Rattle.speedate_base.proofs.LineLemmas.{EndsNoLine, IsFree, joined_one_line}

-- the marks of a part of a text
abbrev pub marks_at : List ℕ → ℕ → ℕ
marks_at text place = mask_l (map is_line_feed (chunk place 16 text))

-- where no byte is marked, no line ends
pub IsOneLine-from_marks : (text : List ℕ) (from place marks : ℕ) → place + 16 ≤ length text
    → IsOneLine text from place
    → marks ≡ marks_at text place → marks ≡ 0 → IsOneLine text from (place + 16)
IsOneLine-from_marks text from place marks room before is none =
    joined_one_line text from place (place + 16) before
    (λ k after below. eqb-false (get_or text k 0) line_feed
    (none_from_empty_mask is_line_feed text place 16 0 room (sym is ∙ none) k after below))

marks-free : (bytes : List ℕ) → IsFree bytes → mask_l (map is_line_feed bytes) ≡ 0
marks-free [] free = refl
marks-free (byte ∷ bytes) free =
    rw (
      ne_eqb byte line_feed (All-head EndsNoLine byte bytes free),
      marks-free bytes (All-tail EndsNoLine byte bytes free),
    ) refl

-- the lowest mark is at the first end of a line
pub IsLineEnd-from_marks : (text : List ℕ) (from place marks : ℕ) → from ≤ place
    → place + 16 ≤ length text → IsOneLine text from place
    → marks ≡ marks_at text place → 0 < marks
    → IsLineEnd text from (place + count_trailing_zeros 64 marks)
IsLineEnd-from_marks text from place marks ordered room before is some =
    let part = chunk place 16 text in
    let long = length-chunk place 16 text room in
    let first = count_trailing_zeros 64 marks in
    let counted =
    ap (count_trailing_zeros 64) is
    ∙ trailing_mask_l is_line_feed 64 part (omega (arith, long)) (omega (arith, is)) in
    let clear : IsOneLine text place (place + first) = λ k after below.
    eqb-false (get_or text k 0) line_feed
    (run_in_chunk_fails is_line_feed text place 16 first 0 room counted k after below) in
    let within : first < 16 = elim (cases_lt first 16) [
      | inl below ↦ below
      | inr above ↦
          let free = All-from_get_or EndsNoLine part 0 (λ k below same.
          let inside : k < 16 = omega (arith, long) in
          clear (place + k) (omega arith) (omega arith)
          (sym (get_or-chunk place 16 text k 0 inside) ∙ same)) in
          absurd (omega (arith, is, marks-free part free))
    ] in
    record {
      after = omega arith;
      within = omega arith;
      ends = eqb-true (get_or text (place + first) 0) line_feed
          (run_in_chunk_stops is_line_feed text place 16 first 0 room counted within);
      first = joined_one_line text from place (place + first) before clear;
    }
