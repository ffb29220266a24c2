use Rattle.std.proofs.Common.{◌<◌, length, arith, sym, subst, List, ℕ}
use Rattle.speedate_sort.specs.Merge.{ReadsLine}
use Rattle.speedate_sort.proofs.SortLemmas.{ok_part}
use Rattle.speedate_sort.proofs.SourceLemmas.{reads-line}
use Rattle.speedate_sort.proofs.merge.read_line.Goals as goal

pub returns-else-is_err-clause-line : goal.returns-else-is_err-clause-line
returns-else-is_err-clause-line g c =
    let before = g.R.Read.remaining c.args.input.now in
    let after = g.R.Read.remaining c.read_until.new.self in
    let line : List ℕ = c.read_until.new.buf.items in
    let taken = rw c.clear.ensures.items at c.in-Ok.ensures.bytes in
    let some : 0 < length line =
    omega (arith, c.in-Ok.ensures.ok, c.in-Ok.field-0-test.1, c.read_until.new.buf.ok.0) in
    let is = ok_part c.end_line.result (sym c.if-is_err.ensures.value) c.end_line.ensures in
    λ known. subst (ReadsLine before after) (sym {A = List ℕ} is)
    (reads-line before after line taken c.in-Ok.ensures.rest some known)
