use Rattle.std.proofs.Common.{◌∙◌, ap}
use Rattle.speedate_civil.specs.Time.{time_of_day, time_answer}
use Rattle.speedate_base.proofs.TextLemmas.{text-alone}
use Rattle.speedate_civil.proofs.TimeLemmas.{time_text_with-reads}
use Rattle.speedate_civil.proofs.ValueLemmas.{is_time}
use Rattle.speedate_civil.proofs.time.Time.to_text_with_digits.Goals as goal

pub returns-clause-reads_back : goal.returns-clause-reads_back
returns-clause-reads_back c whole config =
    let time = c.args.self.now in
    let behavior = config.microseconds_precision_overflow_behavior in
    let bytes = text-alone _ _ _ c.new-text.ensures c.push_onto_with_digits.ensures.text in
    ap (time_answer behavior) bytes
    ∙ time_text_with-reads behavior c.args.digits (time_of_day time) (is_time time) whole
