use Rattle.std.proofs.Common.{rules, ◌≡◌, ◌∙◌, ◌+◌, ◌<◌, ℕ, List, ◌∷◌, ◌++◌, length, take, drop, get_or, slice_set, ap, sym, arith, append_assoc}
use Rattle.std.proofs.Math.Seq.{set-append_seam}
use Rattle.std.proofs.lemmas.List.{at_drop_more, drop-drop, length-append, length-take-le}
use Rattle.speedate_base.specs.Ascii.{line_feed}
use Rattle.speedate.proofs.column.print.put_line.Goals as goal

-- the byte after a line is set, and the others stay
ended : (line out : List ℕ) (place : ℕ) → place + length line < length out
    → slice_set (take place out ++ (line ++ drop (place + length line) out)) (place + length line)
    line_feed
    ≡ take place out ++ (line ++ line_feed ∷ drop (place + length line + 1) out)
ended line out place room =
    let end = place + length line in
    let before : List ℕ = take place out in
    let front : List ℕ = before ++ line in
    let byte = get_or out end 0 in
    let rest : List ℕ = drop (end + 1) out in
    let cut = length-take-le place out (omega (arith, room)) in
    let long : length front ≡ end = omega (arith, room, length-append before line, cut) in
    let with_end = λ (list : List ℕ). slice_set list end line_feed in
    at_drop_more (λ (rest : List ℕ). with_end (before ++ (line ++ rest))) out end 0 room
    ∙ ap with_end (sym (append_assoc before line (byte ∷ rest)))
    ∙ ap (λ (n : ℕ). slice_set (front ++ byte ∷ rest) n line_feed) (sym long)
    ∙ set-append_seam front byte rest line_feed
    ∙ append_assoc before line (line_feed ∷ rest)

pub returns : goal.returns
returns c = search (rules, drop-drop, ended)
