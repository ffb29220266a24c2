use Rattle.std.proofs.Common.{◌≡◌, ◌∙◌, ℕ, List, ◌==◌, true, false, drop, slice_index, Ok, refl, rules}
use Rattle.speedate_base.specs.Ascii.{colon, comma}
use Rattle.speedate_base.specs.Requirement.{first_refusal_or, moved, shifted}
use Rattle.speedate_civil.specs.Base.{ParseError}
use Rattle.speedate_civil.specs.Strict.{offset_place, strict_offset, strict_time}
use Rattle.speedate_civil.proofs.time.Time.require_strict.Goals as goal

-- after a second and no comma the offset decides
strict-from : {E : Type 0} (refuse : ParseError → ℕ → E) (text : List ℕ) (place : ℕ)
    → (slice_index text 5 == colon) ≡ true → (slice_index text 8 == comma) ≡ false
    → offset_place text ≡ place
    → first_refusal_or {A = Unit {0}} refuse (moved place (strict_offset (drop place text)))
    (Ok tt)
    ≡ first_refusal_or refuse (strict_time text) (Ok tt)
strict-from refuse text place second plain is = rw (second, plain, is) refl

pub returns-in_default-clause-answer : goal.returns-in_default-clause-answer
returns-in_default-clause-answer g c =
    c.require_strict_offset-in_default.ensures.answer
    ∙ strict-from (shifted c.args.start g.E.Refusal.refusal) c.args.text.now 8 (search rules)
    (search rules) (search rules)
