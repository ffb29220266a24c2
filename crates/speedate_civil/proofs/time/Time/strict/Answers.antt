use Rattle.std.proofs.lemmas.Result.{err_from_is_err_and}
use Rattle.std.proofs.Common.{◌≡◌, ◌≤◌, ◌+◌, ◌∙◌, ap, sym, ℕ, List, length, IfSome, Option, None, Some, Ok, arith}
use Rattle.speedate_base.specs.Requirement.{first_refusal_or, shifted}
use Rattle.speedate_civil.specs.Base.{ParseError}
use Rattle.speedate_base.proofs.RefusalLemmas.{refusal-read, shifted-none}
use Rattle.speedate_civil.specs.Time.{time_of_day}
use Rattle.speedate_civil.proofs.StrictPlaceLemmas.{strict-within}
use Rattle.speedate_civil.specs.Strict.{strict_time}
use Rattle.speedate_base.proofs.RefusalLemmas.{seen-read}
use Rattle.speedate_civil.proofs.time.Time.strict.Goals as goal

strict-here : {E : Type 0} (refuse : ParseError → ℕ → E) (text : List ℕ)
    → first_refusal_or {A = Unit {0}} (shifted 0 refuse) (strict_time text) (Ok tt)
    ≡ first_refusal_or refuse (strict_time text) (Ok tt)
strict-here refuse text =
    ap (λ (refuse : ParseError → ℕ → _). first_refusal_or {A = Unit {0}} refuse
    (strict_time text) (Ok tt)) (shifted-none refuse)

pub returns-in_err-require_strict-clause-answer
    : goal.returns-in_err-require_strict-clause-answer
returns-in_err-require_strict-clause-answer g c =
    let p = err_from_is_err_and c.from_residual-in_err-require_strict.result
    c.from_residual-in_err-require_strict.ensures.1 in
    rw (p.1, p.2) (refusal-read g.E.Refusal.refusal (strict_time c.args.bytes.now)
    (time_of_day c.in_ok-time.time)
    _ _ c.in_ok-time.ensures.answer (c.in_err-require_strict.ensures.answer
    ∙ strict-here g.E.Refusal.refusal c.args.bytes.now))

pub returns-clause-answer : goal.returns-clause-answer
returns-clause-answer g c =
    refusal-read g.E.Refusal.refusal (strict_time c.args.bytes.now)
    (time_of_day c.in_ok-time.time)
    _ _ c.in_ok-time.ensures.answer (c.in_ok-require_strict.ensures.answer
    ∙ strict-here g.E.Refusal.refusal c.args.bytes.now)

within-here : (size : ℕ) (place : Option ℕ) → IfSome place (λ place. place ≤ size)
    → IfSome place (λ place. 0 + place ≤ size)
within-here size None within = tt
within-here size (Some place) within = omega (arith, within)

pub returns-in_err-require_strict-clause-placed
    : goal.returns-in_err-require_strict-clause-placed
returns-in_err-require_strict-clause-placed g c =
    let size = length c.args.bytes.now in
    let p = err_from_is_err_and c.from_residual-in_err-require_strict.result
    c.from_residual-in_err-require_strict.ensures.1 in
    rw (p.1, p.2) (c.in_err-require_strict.ensures.placed size (within-here size _
    (strict-within c.args.behavior c.args.bytes.now _
    (seen-read g.E.Refusal.refusal _ _ (sym c.in_ok-time.ensures.answer)))))
