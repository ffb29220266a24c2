use Rattle.std.proofs.Common.{◌≡◌, rules}
use Rattle.speedate_civil.specs.Base.{ParseError}
use Rattle.speedate_base.specs.Numbers.{NoNumber, number_answer}
use Rattle.speedate_base.specs.Refused.{alone_or}
use Rattle.speedate_base.specs.Requirement.{fault_alone}
use Rattle.speedate_civil.specs.Calendar.{Ymd}
use Rattle.speedate_civil.specs.Date.{date_front, ymd}
use Rattle.speedate_civil.proofs.NumberTextLemmas.{number_answer-date}
use Rattle.speedate_civil.proofs.ReadLemmas.{read-seen, read-then}
use Rattle.speedate_civil.proofs.date.Date.parse_bytes_rfc3339.Goals as goal

pub returns-clause-no_number : goal.returns-clause-no_number
returns-clause-no_number c =
    let bytes = c.args.bytes.now in
    let end = λ (read : Ymd). ParseError.ExtraCharacters in
    read-seen fault_alone ymd (λ (read : Ymd). number_answer bytes ≡ NoNumber) c.whole.result _
    c.whole.ensures.answer
    (read-then (λ (read : Ymd). number_answer bytes ≡ NoNumber) (alone_or end bytes)
    (date_front bytes)
    (λ front is. let none = number_answer-date bytes front is in search rules))
