use Rattle.std.proofs.Common.{length, sym}
use Rattle.std.proofs.lemmas.Result.{err_from_is_err_and}
use Rattle.speedate_base.proofs.RefusalLemmas.{refusal-read}
use Rattle.speedate_civil.specs.DateTime.{date_and_time}
use Rattle.speedate_civil.specs.Strict.{strict_date_time}
use Rattle.speedate_civil.proofs.StrictPlaceLemmas.{strict_date_time-within}
use Rattle.speedate_base.proofs.RefusalLemmas.{seen-read}
use Rattle.speedate_civil.proofs.datetime.DateTime.strict.Goals as goal

pub returns-in_err-require_strict-clause-answer
    : goal.returns-in_err-require_strict-clause-answer
returns-in_err-require_strict-clause-answer g c =
    let p = err_from_is_err_and c.from_residual-in_err-require_strict.result
    c.from_residual-in_err-require_strict.ensures.1 in
    rw (p.1, p.2) (refusal-read g.E.Refusal.refusal (strict_date_time c.args.bytes.now)
    (date_and_time c.in_ok-value.value)
    _ _ c.in_ok-value.ensures.answer c.in_err-require_strict.ensures.answer)

pub returns-clause-answer : goal.returns-clause-answer
returns-clause-answer g c =
    refusal-read g.E.Refusal.refusal (strict_date_time c.args.bytes.now)
    (date_and_time c.in_ok-value.value)
    _ _ c.in_ok-value.ensures.answer c.in_ok-require_strict.ensures.answer

pub returns-in_err-require_strict-clause-placed
    : goal.returns-in_err-require_strict-clause-placed
returns-in_err-require_strict-clause-placed g c =
    let p = err_from_is_err_and c.from_residual-in_err-require_strict.result
    c.from_residual-in_err-require_strict.ensures.1 in
    rw (p.1, p.2) (c.in_err-require_strict.ensures.placed (length c.args.bytes.now)
    (strict_date_time-within c.args.behavior c.args.bytes.now _
    (seen-read g.E.Refusal.refusal _ _ (sym c.in_ok-value.ensures.answer))))
