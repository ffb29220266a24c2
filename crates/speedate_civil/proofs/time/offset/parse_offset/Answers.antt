use Rattle.std.proofs.Common.{rules, length, length-drop, ◌≤◌, ◌∙◌, ◌+◌, ap, ap₂, sym, ℕ, List, true, ◌==◌, drop-drop, arith}
use Rattle.std.proofs.lemmas.Grind.{common_steps}
use Rattle.speedate_base.specs.Ascii.{hyphen}
use Rattle.speedate_base.specs.Requirement.{shifted}
use Rattle.speedate_civil.specs.Time.{is_plus_or_minus, is_utc, signed_front}
use Rattle.speedate_base.proofs.RefusalLemmas.{seen-part}
use Rattle.speedate_base.specs.Refused.{seen_as}
use Rattle.speedate_civil.proofs.OffsetLemmas.{first-of}
use Rattle.speedate_civil.proofs.time.offset.parse_offset.Goals as goal

pub returns-then-is_plus_or_minus-clause-answer : goal.returns-then-is_plus_or_minus-clause-answer
returns-then-is_plus_or_minus-clause-answer g c =
    let refuse = g.E.Refusal.refusal in
    let byte = first-of c.args.bytes.now c.args.place _ c.byte_at-first.ensures.byte in
    rw (ap is_plus_or_minus byte ∙ sym c.if-is_plus_or_minus.ensures.value)
    (c.signed_offset.ensures.answer
    ∙ ap₂ (λ (b : ℕ) (numbers : List ℕ). seen_as (shifted (c.args.start + 1) refuse)
    (signed_front (b == hyphen) 1 numbers)) (sym byte)
    (sym (drop-drop 1 c.args.place c.args.bytes.now))
    ∙ sym (seen-part refuse c.args.start 1 _))

pub returns-then-is_utc-clause-answer : goal.returns-then-is_utc-clause-answer
returns-then-is_utc-clause-answer g c = search (rules, first-of)

pub returns-then-has_minus_sign-clause-answer : goal.returns-then-has_minus_sign-clause-answer
returns-then-has_minus_sign-clause-answer g c =
    let refuse = g.E.Refusal.refusal in
    let byte = first-of c.args.bytes.now c.args.place _ c.byte_at-first.ensures.byte in
    rw (
      ap is_plus_or_minus byte ∙ sym c.if-is_plus_or_minus.ensures.value,
      ap is_utc byte ∙ sym c.if-is_utc.ensures.value,
      sym c.if-has_minus_sign.ensures.value,
    )
    (c.signed_offset-then-has_minus_sign.ensures.answer
    ∙ ap (λ (numbers : List ℕ). seen_as (shifted (c.args.start + 3) refuse)
    (signed_front true 3 numbers)) (sym (drop-drop 3 c.args.place c.args.bytes.now))
    ∙ sym (seen-part refuse c.args.start 3 _))

pub returns-clause-answer : goal.returns-clause-answer
returns-clause-answer g c = search (rules, first-of)

pub returns-then-is_plus_or_minus-clause-placed : goal.returns-then-is_plus_or_minus-clause-placed
returns-then-is_plus_or_minus-clause-placed g c = λ size within.
    let bytes = c.args.bytes.now in
    let there : c.args.place + 1 ≤ length bytes = grind (arith, common_steps) in
    c.signed_offset.ensures.placed size
    (omega (
      arith,
      there,
      within,
      length-drop c.args.place bytes,
      length-drop (c.args.place + 1) bytes,
    ))

pub returns-then-has_minus_sign-clause-placed : goal.returns-then-has_minus_sign-clause-placed
returns-then-has_minus_sign-clause-placed g c = search (rules, length-drop)
