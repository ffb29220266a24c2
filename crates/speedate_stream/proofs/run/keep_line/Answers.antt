use Rattle.std.proofs.Common.{rules, ◌≡◌, ◌∙◌, ap, sym, ℕ, ◌-◌, ◌≤◌, List, ◌++◌, drop, length, min, take, arith}
use Rattle.std.proofs.lemmas.List.{length-take-le, length-drop, take-take, take_at, take_min}
use Rattle.std.proofs.lemmas.Slice.{between_is}
use Rattle.speedate_stream.specs.Machine.{head}
use Rattle.speedate_stream.proofs.run.keep_line.Goals as goal

-- what was moved to the front of a block is the kept part of its unfinished line
take-moved : (old after : List ℕ) (start filled n : ℕ) → start ≤ filled → filled ≤ length old
    → n ≡ min (filled - start) 4097
    → take n (take n (drop start old) ++ after) ≡ head (drop start (take filled old))
take-moved old after start filled n ordered within is =
    let line = drop start (take filled old) in
    let size : n ≡ min 4097 (length line) =
    omega (arith, is, length-drop start (take filled old), length-take-le filled old within) in
    take_at (take n (drop start old)) after n
    (length-take-le n (drop start old) (omega (arith, length-drop start old, is)))
    ∙ sym (take-take n (filled - start) (drop start old) (omega (arith, is)))
    ∙ ap (take n) (between_is old start filled)
    ∙ ap (λ (k : ℕ). take k line) size
    ∙ take_min 4097 line

pub returns-clause-kept : goal.returns-clause-kept
returns-clause-kept c = search (rules, take-moved)
