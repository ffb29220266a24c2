use Rattle.std.proofs.Common.{◌∙◌, ap, refl, rules, sym}
use Rattle.speedate_civil.specs.Date.{date_answer, date_number_answer}
use Rattle.speedate_base.specs.Numbers.{whole_number}
use Rattle.speedate_base.proofs.RefusalLemmas.{seen-fault, seen_refused}
use Rattle.speedate_civil.specs.ParserParts.{may_be_number}
use Rattle.speedate_civil.proofs.NumberTextLemmas.{whole_number-refused}
use Rattle.speedate_civil.proofs.date.Date.parse_timestamp.Goals as goal

pub returns-then-not-may_be_number-clause-answer : goal.returns-then-not-may_be_number-clause-answer
returns-then-not-may_be_number-clause-answer g c =
    let text = c.args.bytes.now in
    let number = date_number_answer c.args.config.now.timestamp_unit (whole_number text) in
    let refused = seen-fault g.E.Refusal.fault_of g.E.Refusal.refusal (date_answer text)
    c.args.refusal g.met.E.Refusal.keeps_fault c.requires.refused in
    let fault = ap may_be_number c.fault.ensures.fault in
    let behind = sym fault ∙ sym c.may_be_number.ensures ∙ c.if-not-may_be_number.true in
    rw (
      seen_refused g.E.Refusal.refusal number (date_answer text) c.args.refusal
          c.requires.refused,
      whole_number-refused text _ refused behind,
    ) refl

pub returns-in-Ok-clause-answer : goal.returns-in-Ok-clause-answer
returns-in-Ok-clause-answer g c =
    let text = c.args.bytes.now in
    let number = date_number_answer c.args.config.now.timestamp_unit (whole_number text) in
    rw (seen_refused g.E.Refusal.refusal number (date_answer text) c.args.refusal
    c.requires.refused) (search rules)

pub returns-in-Err-clause-answer : goal.returns-in-Err-clause-answer
returns-in-Err-clause-answer g c =
    let text = c.args.bytes.now in
    let number = date_number_answer c.args.config.now.timestamp_unit (whole_number text) in
    rw (seen_refused g.E.Refusal.refusal number (date_answer text) c.args.refusal
    c.requires.refused) (search rules)

pub returns-in-None-clause-answer : goal.returns-in-None-clause-answer
returns-in-None-clause-answer g c = search (rules, seen_refused)
