use Rattle.std.proofs.Common.{rules, ◌≡◌, ◌∙◌, ◌<◌, ◌-◌, ◌==◌, length, take, arith, ap, sym, List, ℕ, false, vec_len}
use Rattle.std.proofs.lemmas.Bool.{eqb-false, eqb-true}
use Rattle.std.proofs.lemmas.List.{nil_from_length}
use Rattle.std.specs.Prelude.{int_lt}
use Rattle.speedate_sort.specs.Sort.{Keys}
use Rattle.speedate_sort.specs.Merge.{unread}
use Rattle.speedate_sort.proofs.SourceLemmas.{left-same, moves-end, moves-line, unread-left}
use Rattle.speedate_sort.proofs.merge.Source.advance.Goals as goal

-- a list of so many elements, which are some
some-read : (line : List ℕ) (size : ℕ) → length line ≡ size → (size == 0) ≡ false → 0 < length line
some-read line size long some = omega (arith, eqb-false size 0 some)

pub returns-then-is_kept-clause-moves : goal.returns-then-is_kept-clause-moves
returns-then-is_kept-clause-moves g c =
    let line : List ℕ = c.read_line.new.line.items in
    let keys : Keys = c.loop.self.keys in
    let new : Keys = c.pass_line-is_kept.new.keys in
    let long : c.len-end.result ≡ length line =
    omega (arith, c.len-end.ensures, c.read_line.new.line.ok.0) in
    let some = some-read line (vec_len c.read_line.new.line) (sym c.read_line.new.line.ok.0)
    (sym c.if-is_empty.ensures) in
    let is = rw (c.deref.ensures.value, long) at c.if-is_kept.ensures.after in
    let kept = rw (c.deref.ensures.value, long) at c.if-is_kept.ensures.kept in
    let order : int_lt new.instant keys.instant ≡ false = search rules in
    λ known.
    let reads = c.in_default.ensures.line (c.loop.invariant.known known) in
    moves-line (g.R.Read.remaining c.args.self.now.input) (g.R.Read.remaining c.loop.self.input)
    (g.R.Read.remaining c.read_line.new.input) c.args.self.now.keys keys new line reads some
    (c.loop.invariant.lines known) c.loop.invariant.instant is (sym kept) order

pub returns-then-is_empty-clause-moves : goal.returns-then-is_empty-clause-moves
returns-then-is_empty-clause-moves g c =
    let line : List ℕ = c.read_line.new.line.items in
    let size : ℕ = vec_len c.read_line.new.line in
    let none = eqb-true size 0 (sym c.if-is_empty.ensures) in
    λ known.
    let reads = c.in_default.ensures.line (c.loop.invariant.known known) in
    moves-end (g.R.Read.remaining c.args.self.now.input) (g.R.Read.remaining c.loop.self.input)
    (g.R.Read.remaining c.read_line.new.input) c.args.self.now.keys c.loop.self.keys line
    (nil_from_length line (sym c.read_line.new.line.ok.0 ∙ none)) reads
    (c.loop.invariant.lines known) c.loop.invariant.instant

pub loop-preserved : goal.loop-preserved
loop-preserved g c =
    let line : List ℕ = c.read_line.new.line.items in
    let keys : Keys = c.loop.self.keys in
    let long : c.len-end.result ≡ length line =
    omega (arith, c.len-end.ensures, c.read_line.new.line.ok.0) in
    let some = some-read line (vec_len c.read_line.new.line) (sym c.read_line.new.line.ok.0)
    (sym c.if-is_empty.ensures) in
    let is = rw (c.deref.ensures.value, long) at c.if-is_kept.ensures.after in
    let left = rw (c.deref.ensures.value, long) at c.if-is_kept.ensures.kept in
    let number = rw (c.deref.ensures.value, long) at c.if-is_kept.ensures.number in
    let same = left-same keys c.loop.self.number (take (length line - 1) line) (sym left) in
    record {
      known = λ known. (c.in_default.ensures.line (c.loop.invariant.known known)).known;
      lines = λ known. c.loop.invariant.lines known
          ∙ unread-left (g.R.Read.remaining c.loop.self.input)
          (g.R.Read.remaining c.read_line.new.input) keys line
          (c.in_default.ensures.line (c.loop.invariant.known known)) some (sym left)
          ∙ ap (unread (g.R.Read.remaining c.read_line.new.input)) (sym is);
      stopped = λ goes_on. sym c.if-is_stopped.ensures.stopped;
      instant = ap (λ (now : Keys). now.instant) is ∙ same.0 ∙ c.loop.invariant.instant;
      number = number ∙ same.1 ∙ c.loop.invariant.number;
      failed = c.in_default.ensures.intact ∙ c.loop.invariant.failed;
    }
