use Rattle.std.proofs.Common.{rules, ◌+◌, ◌-◌, ◌≡◌, ◌<◌, ◌∙◌, ◌∷◌, ℕ, List, length, drop, take, ap, arith, refl, sym}
use Rattle.std.proofs.lemmas.List.{drop_more, take_more}
use Rattle.speedate.specs.ColumnText.{column_text}
use Rattle.speedate.proofs.ColumnTextLemmas.{IsPrintedSoFar-more, IsReadSoFar-more}
use Rattle.speedate.proofs.ColumnTextLemmas.{column_text-more, text_column-read}
use Rattle.speedate.proofs.column.print.print_column.Goals as goal

pub loop-lines-preserved : goal.loop-lines-preserved
loop-lines-preserved g c =
    let before = c.loop-lines.invariant in
    let line_of = g.P.LinePrinter.line c.args.printer.now in
    let leads_back = g.P.LinePrinter.leads_back c.args.printer.now in
    let numbers = c.args.numbers.now in
    let lines : ℕ = c.loop-lines.lines in
    let bytes : ℕ = c.loop-lines.bytes in
    let out : List ℕ = c.loop-lines.out in
    let number = c.index-numbers-lines.result in
    let line : List ℕ = c.push_line.new.text.bytes in
    let size : c.len-size.result ≡ length line = c.len-size.ensures.value in
    let fits : length line < length out - bytes =
    omega (arith, size) in
    let first = drop_more numbers lines number c.loop-lines-test.true
    ∙ ap (λ one. one ∷ drop (lines + 1) numbers) (sym c.index-numbers-lines.is) in
    let taken = take_more numbers lines number c.loop-lines-test.true in
    let room = length out - bytes in
    let is = ap (column_text line_of room) first
    ∙ column_text-more line_of room number (drop (lines + 1) numbers) line
    (sym c.in-Ok.ensures.line) fits in
    let put = rw c.as_str.ensures.value at c.put_line.ensures.put in
    let next : ℕ = bytes + (c.len-size.result + 1) in
    let old : List ℕ = c.args.out.now in
    let whole = column_text line_of (length old) numbers in
    let new : List ℕ = c.put_line.new.out in
    let more = IsPrintedSoFar-more whole _ _ lines (lines + 1) bytes next old out new line
    before.so_far is refl (omega (arith, size)) (omega (arith, fits)) put in
    let read = IsReadSoFar-more leads_back (take bytes out) line (take lines numbers) number
    before.reads c.in-Ok.ensures.no_control c.in-Ok.ensures.reads_back in
    let left : room - (length line + 1) ≡ length new - next = omega (arith, size) in
    search (rules, before, size, fits, taken, more, read, left)

pub returns-in-Err-clause-reads_back : goal.returns-in-Err-clause-reads_back
returns-in-Err-clause-reads_back g c answer refused config back =
    search (rules, text_column-read)

pub returns-then-size-out-clause-reads_back : goal.returns-then-size-out-clause-reads_back
returns-then-size-out-clause-reads_back g c answer refused config back =
    search (rules, text_column-read)

pub returns-clause-reads_back : goal.returns-clause-reads_back
returns-clause-reads_back g c answer refused config back =
    search (rules, text_column-read)
