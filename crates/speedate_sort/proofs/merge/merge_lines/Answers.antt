use Rattle.std.proofs.Common.{◌∙◌, ◌++◌, ap, sym, List, ℕ, [], IsSome, get_or, is_some, refl, set}
use Rattle.std.proofs.Math.Bool.{or-false}
use Rattle.std.proofs.lemmas.Bool.{true≢false}
use Rattle.std.proofs.lemmas.List.{set-get_or}
use Rattle.std.proofs.lemmas.List.Elements.{All-set}
use Rattle.speedate_stream.proofs.SentLemmas.{AppendsBeginning-left, AppendsBeginning-more}
use Rattle.speedate_stream.proofs.SentLemmas.{AppendsBut-more, AppendsBut-same, AppendsBut-trans}
use Rattle.speedate_stream.proofs.SentLemmas.{on_err}
use Rattle.speedate_sort.specs.Sort.{Keyed}
use Rattle.speedate_sort.specs.Merge.{AreKnown, Best, IsAlike, due, files_left}
use Rattle.speedate_sort.proofs.SourceLemmas.{halt-in, settled-alike_all, settled-trans}
use Rattle.speedate_sort.proofs.SourceLemmas.{source-known, sources-line, sources-none}
use Rattle.speedate_sort.proofs.SourceLemmas.{sources-set, sources-step}
use Rattle.speedate_sort.proofs.merge.merge_lines.Goals as goal

pub returns-in_default-clause-merged : goal.returns-in_default-clause-merged
returns-in_default-clause-merged g c =
    let none = sources-none g.R.Read.remaining c.loop.sources (sym c.in_default.ensures.best) in
    let waiting : List ℕ = c.loop.pending.items in
    λ known. record {
      left = [];
      sent = AppendsBut-same (c.loop.invariant.sent known)
          (ap (λ (l : List ℕ). waiting ++ l) none.0);
      all = λ is. (refl, c.loop.invariant.order known none.1);
      others = tt;
    }

pub returns-in_err-halt-clause-beginning : goal.returns-in_err-halt-clause-beginning
returns-in_err-halt-clause-beginning g c =
    let best : Best = c.in-Some.best in
    let at = ap (get_or c.loop.sources best.index) c.index-sources-best.is in
    let line = sources-line g.R.Read.remaining c.loop.sources best _
    (sym c.in-Some.ensures.best) c.in-Some.ensures.within at c.loop.pending.items in
    on_err c.from_residual.result (λ known. AppendsBeginning-left
    (AppendsBut-same (c.loop.invariant.sent known) line.1)
    (AppendsBeginning-more _ c.in_err-halt.ensures.printed.writes.beginning))

pub returns-in-Some-2-clause-merged : goal.returns-in-Some-2-clause-merged
returns-in-Some-2-clause-merged g c =
    let best : Best = c.in-Some.best in
    let at = ap (get_or c.loop.sources best.index) c.index-sources-best.is in
    let line = sources-line g.R.Read.remaining c.loop.sources best _
    (sym c.in-Some.ensures.best) c.in-Some.ensures.within at c.loop.pending.items in
    let files : List (List Keyed) = files_left g.R.Read.remaining c.loop.sources in
    let left : List ℕ = due (set files best.index line.0) in
    λ known. record {
      left = left;
      sent = AppendsBut-trans (AppendsBut-same (c.loop.invariant.sent known) line.1)
          (AppendsBut-more left c.in_ok-halt.ensures.printed.writes.sent);
      all = λ none. absurd (true≢false none);
      others = (
        line.0,
        ap due (sources-set g.R.Read.remaining c.loop.sources best.index
            c.step.new.source line.0),
      );
    }

-- no further line can be counted
pub returns-clause-merged : goal.returns-clause-merged
returns-clause-merged g c =
    let files : List (List Keyed) = files_left g.R.Read.remaining c.loop.sources in
    λ known. record {
      left = due files;
      sent = c.loop.invariant.sent known;
      all = λ none. absurd (true≢false none);
      others = (get_or files 0 [], ap due (sym (set-get_or files 0 [])));
    }

pub returns-in-Some-2-clause-halted : goal.returns-in-Some-2-clause-halted
returns-in-Some-2-clause-halted g c =
    halt-in c.args.offsets.now c.loop.offsets c.in-Some-2.halt c.loop.sources c.in-Some.best.index
    c.step.new.source c.in-Some.ensures.within c.loop.invariant.settled
    (rw c.in-Some-2.is at c.in_ok-halt.ensures.halted)

pub loop-preserved : goal.loop-preserved
loop-preserved g c =
    let best : Best = c.in-Some.best in
    let at = ap (get_or c.loop.sources best.index) c.index-sources-best.is in
    let source = get_or c.loop.sources best.index c.index-sources-best.result in
    let new = c.step.new.source in
    let goes_on = ap is_some c.in_default-2.is in
    let moves = λ (known : AreKnown g.R.Read.remaining c.args.sources.now).
    c.in_ok-halt.ensures.moves goes_on (source-known g.R.Read.remaining c.loop.sources best.index
    source c.in-Some.ensures.within at (c.loop.invariant.known known)) in
    let step = λ (known : AreKnown g.R.Read.remaining c.args.sources.now).
    sources-step g.R.Read.remaining c.loop.sources best source new
    (sym c.in-Some.ensures.best) c.in-Some.ensures.within at c.loop.pending.items (moves known) in
    record {
      known = λ known. All-set (λ s. IsSome (g.R.Read.remaining s.input)) c.loop.sources
          best.index new (moves known).known (c.loop.invariant.known known);
      sent = λ known.
          let left : List ℕ =
          due (files_left g.R.Read.remaining (set c.loop.sources best.index new)) in
          AppendsBut-trans (AppendsBut-same (c.loop.invariant.sent known) (step known).0)
          (AppendsBut-more left c.in_ok-halt.ensures.printed.writes.sent);
      order = λ known ordered. c.loop.invariant.order known ((step known).1 ordered);
      failed = c.in_ok-halt.ensures.printed.writes.failed ∙ or-false c.loop.output.failed
          ∙ c.loop.invariant.failed;
      settled = settled-trans c.args.offsets.now c.loop.offsets c.step.new.offsets
          c.loop.invariant.settled c.in_ok-halt.ensures.settled;
      alike = λ alike. All-set (λ s. IsAlike c.step.new.offsets s.keys.scan.offsets)
          c.loop.sources best.index new (c.in_ok-halt.ensures.alike goes_on)
          (settled-alike_all c.loop.offsets c.step.new.offsets c.loop.sources
          c.in_ok-halt.ensures.settled (c.loop.invariant.alike alike));
    }
