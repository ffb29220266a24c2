use Rattle.std.proofs.Common.{sym}
use Rattle.speedate.specs.DateTime.{date_and_time}
use Rattle.speedate.specs.Requirement.{with_size}
use Rattle.speedate_scan.proofs.ReadingLemmas.{strict_is_front}
use Rattle.speedate_scan.proofs.form.strict_front.Goals as goal

pub returns-in-Ok-require_standard_date_time-clause-front
    : goal.returns-in-Ok-require_standard_date_time-clause-front
returns-in-Ok-require_standard_date_time-clause-front c =
    sym (strict_is_front c.args.behavior c.args.text.now (with_size date_and_time c.in-Ok.front)
    (sym c.in-Ok.ensures.front) c.in-Ok.ensures.size
    (sym c.in-Ok-require_standard_date_time.ensures.answer))
