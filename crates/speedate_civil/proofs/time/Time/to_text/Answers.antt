use Rattle.std.proofs.Common.{◌∙◌, ap, rules}
use Rattle.speedate_civil.specs.Time.{time_of_day, time_answer}
use Rattle.speedate_base.proofs.TextLemmas.{text-alone, text-canonical}
use Rattle.speedate_civil.proofs.AfterTimeLemmas.{time_text-front-iff}
use Rattle.speedate_civil.proofs.TimeLemmas.{time_text-reads}
use Rattle.speedate_civil.proofs.ValueLemmas.{is_time}
use Rattle.speedate_civil.proofs.time.Time.to_text.Goals as goal

pub returns-clause-reads_back : goal.returns-clause-reads_back
returns-clause-reads_back c whole config =
    let time = c.args.self.now in
    let behavior = config.microseconds_precision_overflow_behavior in
    let bytes = text-alone _ _ _ c.new-text.ensures c.push_onto.ensures.text in
    ap (time_answer behavior) bytes
    ∙ time_text-reads behavior (time_of_day time) (is_time time) whole

pub returns-clause-reads_front : goal.returns-clause-reads_front
returns-clause-reads_front c whole config rest =
    let time = time_of_day c.args.self.now in
    let behavior = config.microseconds_precision_overflow_behavior in
    let bytes = text-alone _ _ _ c.new-text.ensures c.push_onto.ensures.text in
    rw (bytes) (time_text-front-iff behavior time rest (is_time c.args.self.now) whole)

pub returns-clause-canonical : goal.returns-clause-canonical
returns-clause-canonical c whole config =
    search (rules, text-alone, text-canonical, returns-clause-reads_back)
