use Rattle.std.proofs.Common.{◌≡◌, ◌∙◌, ℕ, List, Err, ap, refl, rules, sym}
use Rattle.speedate_base.specs.Numbers.{number_answer}
use Rattle.speedate_base.specs.Requirement.{or_number, result_map}
use Rattle.std.specs.Option.{option_map}
use Rattle.speedate_civil.specs.DateTime.{date_time_answer, date_time_at}
use Rattle.speedate_civil.specs.DateTime.{number_instant}
use Rattle.speedate_civil.specs.ParserParts.{may_be_number}
use Rattle.speedate_base.proofs.RefusalLemmas.{seen-number_map, seen-fault, seen_refused}
use Rattle.speedate_civil.specs.Base.{DateTimeConfig, ParseError}
use Rattle.speedate_base.specs.Config.{choices}
use Rattle.speedate_civil.proofs.NumberTextLemmas.{number_answer-refused}
use Rattle.speedate_base.specs.Refused.{seen_as}
use Rattle.speedate_civil.specs.DateTime.{date_time_by_config}
use Rattle.speedate_civil.proofs.datetime.timestamp.timestamp_instant.Goals as goal

-- the answer, where no date-time is read
numbered : {E : Type 0} (refuse : ParseError → ℕ → E) (config : DateTimeConfig) (text : List ℕ)
    (refusal : E)
    → seen_as refuse (date_time_answer (choices config).behavior text) ≡ Err refusal
    → seen_as refuse (date_time_by_config config text)
    ≡ or_number (option_map (seen_as refuse) (option_map (result_map
    (date_time_at (choices config).offset)) (number_instant config.timestamp_unit
    (choices config).behavior text (number_answer text)))) (Err refusal)
numbered refuse config text refusal refused = seen_refused refuse _ _ refusal refused

pub returns-then-not-may_be_number-clause-answer : goal.returns-then-not-may_be_number-clause-answer
returns-then-not-may_be_number-clause-answer g c =
    let text = c.args.bytes.now in
    let config = c.args.config.now in
    let refuse = g.E.Refusal.refusal in
    let keeps = g.met.E.Refusal.keeps_fault in
    let answer = date_time_answer (choices config).behavior text in
    let refused = seen-fault g.E.Refusal.fault_of refuse answer c.args.refusal keeps
    c.requires.refused in
    let fault = ap may_be_number c.fault.ensures.fault in
    let behind = sym fault ∙ sym c.may_be_number.ensures ∙ c.if-not-may_be_number.true in
    let none = number_answer-refused text answer _ (λ other is. rw is refl) refused behind in
    rw (numbered refuse config text c.args.refusal c.requires.refused, none) refl

pub returns-in_err-time-clause-answer : goal.returns-in_err-time-clause-answer
returns-in_err-time-clause-answer g c = search (rules, numbered, seen-number_map)

pub returns-clause-answer : goal.returns-clause-answer
returns-clause-answer g c =
    let config = c.args.config.now in
    let text = c.args.bytes.now in
    let refuse = g.E.Refusal.refusal in
    let at = date_time_at (choices config).offset in
    let number = number_instant config.timestamp_unit (choices config).behavior text
    (number_answer text) in
    ap (result_map at) c.in_ok-time.ensures.answer
    ∙ seen-number_map refuse at number c.args.refusal
    ∙ sym (numbered refuse config text c.args.refusal c.requires.refused)
