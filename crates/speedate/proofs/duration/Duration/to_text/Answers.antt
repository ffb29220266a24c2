use Rattle.std.proofs.Common.{rules, ◌∙◌, ap, sym}
use Rattle.speedate_base.proofs.TextLemmas.{text-alone, text-canonical}
use Rattle.speedate.specs.Duration.{duration_numbers, duration_answer, duration_text}
use Rattle.speedate.proofs.IsoTextLemmas.{duration_text-reads, duration_text-distinct}
use Rattle.speedate.proofs.DurationLemmas.{is_duration}
use Rattle.speedate.proofs.duration.Duration.to_text.Goals as goal

pub returns-clause-reads_back : goal.returns-clause-reads_back
returns-clause-reads_back c config =
    let duration = c.args.self.now in
    let behavior = config.microseconds_precision_overflow_behavior in
    let bytes = text-alone _ _ _ c.new-text.ensures c.push_onto.ensures.text in
    ap (duration_answer config.iso_order behavior) bytes
    ∙ duration_text-reads config.iso_order behavior (duration_numbers duration)
    (is_duration duration)

pub returns-clause-canonical : goal.returns-clause-canonical
returns-clause-canonical c config =
    search (rules, text-alone, text-canonical, returns-clause-reads_back)

pub returns-clause-distinct : goal.returns-clause-distinct
returns-clause-distinct c other =
    let duration = c.args.self.now in
    let bytes = text-alone _ _ _ c.new-text.ensures c.push_onto.ensures.text in (
      λ same. duration_text-distinct (duration_numbers duration) (duration_numbers other)
          (is_duration duration) (is_duration other) (sym bytes ∙ same),
      λ one. bytes ∙ ap duration_text one,
    )
