use Rattle.std.proofs.Common.{◌∙◌, subst, inl, inr, ℕ, List, ◌++◌}
use Rattle.std.proofs.KnownBytes.{Consumes-whole}
use Rattle.std.proofs.lemmas.Bool.{false≢true}
use Rattle.std.specs.Io.KnownBytes.{Appends}
use Rattle.speedate.specs.Lines.{lines}
use Rattle.speedate_lines.specs.Answer.{answers}
use Rattle.speedate_lines.proofs.AnsweringLemmas.{lines_output-answers, progress-answers}
use Rattle.speedate_stream.specs.Run.{AppendsFrom}
use Rattle.speedate_lines.proofs.run.run.Goals as goal

pub returns-in-Ok-clause-answered : goal.returns-in-Ok-clause-answered
returns-in-Ok-clause-answered g c =
    let from = g.W.Write.contents c.args.output.now.inner in
    let to = g.W.Write.contents c.run.new.output.inner in
    let IsWritten = λ (text : List ℕ). Appends from to (answers (lines text)) in
    elim c.in-Ok.ensures.ended [
      | inl printed ↦
          Consumes-whole _ _ printed.text IsWritten printed.consumed printed.ended
          (subst (Appends from to) (lines_output-answers _ (lines printed.text)) printed.sent)
      | inr done ↦ absurd (false≢true done.0)
    ]

pub returns-in-Err-clause-read_failed : goal.returns-in-Err-clause-read_failed
returns-in-Err-clause-read_failed g c = λ failed.
    let printed = c.in-Err.ensures.read_failed failed in
    record {
      text = printed.text;
      consumed = printed.consumed;
      sent = subst (Appends _ _) (progress-answers _ printed.text) printed.sent;
    }

pub returns-in-Err-clause-write_failed : goal.returns-in-Err-clause-write_failed
returns-in-Err-clause-write_failed g c = λ failed.
    let printed = c.in-Err.ensures.write_failed failed in
    let text = printed.earlier ++ printed.latest in
    let from = g.W.Write.contents c.args.output.now.inner in
    let to = g.W.Write.contents c.run.new.output.inner in
    record {
      earlier = printed.earlier;
      latest = printed.latest;
      due = printed.due;
      consumed = printed.consumed;
      one_read = printed.one_read;
      is_due = elim printed.is_due [
        | inl due ↦ inl (due ∙ progress-answers _ text)
        | inr due ↦ inr (due.0, due.1 ∙ lines_output-answers _ (lines text))
      ];
      sent = subst (λ (first : List ℕ). AppendsFrom first from to printed.due)
          (progress-answers _ printed.earlier) printed.sent;
    }
