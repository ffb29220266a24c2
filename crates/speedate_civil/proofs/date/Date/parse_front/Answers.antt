use Rattle.std.proofs.lemmas.Bool.Decides.{nat_tests}
use Rattle.std.proofs.Common.{◌≡◌, ℕ, take, Ok, arith}
use Rattle.speedate_civil.specs.Base.{ParseError}
use Rattle.speedate_base.proofs.RequirementLemmas.{alone-iff}
use Rattle.speedate_base.specs.Requirement.{fault_alone}
use Rattle.speedate_base.specs.Requirement.{with_size}
use Rattle.speedate_civil.specs.Calendar.{Ymd}
use Rattle.speedate_civil.specs.Date.{ymd, date_answer}
use Rattle.speedate_base.specs.Ascii.{HasNoControl}
use Rattle.speedate_civil.proofs.NoControlLemmas.{date_front-no_control}
use Rattle.speedate_civil.proofs.FrontLemmas.{date_front-within, date_front-alone}
use Rattle.speedate_civil.proofs.ReadLemmas.{read-seen}
use Rattle.speedate_civil.proofs.date.Date.parse_front.Goals as goal

pub returns-clause-within : goal.returns-clause-within
returns-clause-within c = grind (arith, nat_tests, read-seen, date_front-within)

pub returns-clause-whole : goal.returns-clause-whole
returns-clause-whole c =
    λ date. rw c.front.ensures.answer
    (alone-iff fault_alone (λ (read : Ymd). ParseError.ExtraCharacters) c.args.bytes.now _ date)

pub returns-clause-alone : goal.returns-clause-alone
returns-clause-alone c =
    read-seen fault_alone (with_size ymd)
    (λ (front : Ymd × ℕ). date_answer (take front.1 c.args.bytes.now)
    ≡ Ok front.0) c.front.result _ c.front.ensures.answer
    (date_front-alone c.args.bytes.now)

pub returns-clause-no_control : goal.returns-clause-no_control
returns-clause-no_control c =
    read-seen fault_alone (with_size ymd)
    (λ (front : Ymd × ℕ). HasNoControl front.1 c.args.bytes.now)
    c.front.result _ c.front.ensures.answer
    (date_front-no_control c.args.bytes.now)
