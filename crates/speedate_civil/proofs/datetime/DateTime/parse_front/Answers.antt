use Rattle.std.proofs.Common.{ℕ}
use Rattle.speedate_base.specs.Requirement.{with_size}
use Rattle.speedate_civil.specs.DateTime.{DateAndTime, date_and_time}
use Rattle.speedate_civil.specs.Time.{end_fault}
use Rattle.speedate_base.specs.Ascii.{HasNoControl}
use Rattle.speedate_civil.proofs.NoControlLemmas.{date_time_front-no_control}
use Rattle.speedate_civil.proofs.FrontLemmas.{date_time_read-alone}
use Rattle.speedate_base.proofs.RequirementLemmas.{alone-iff}
use Rattle.speedate_base.specs.Requirement.{fault_alone}
use Rattle.speedate_civil.proofs.ReadLemmas.{read-seen}
use Rattle.speedate_civil.proofs.datetime.DateTime.parse_front.Goals as goal

pub returns-clause-whole : goal.returns-clause-whole
returns-clause-whole c = λ value.
    rw (c.front.ensures.answer) (alone-iff fault_alone
    (λ (read : DateAndTime). end_fault read.time.offset) c.args.bytes.now _ value)

pub returns-clause-alone : goal.returns-clause-alone
returns-clause-alone c =
    date_time_read-alone c.args.config.now.microseconds_precision_overflow_behavior
    c.args.bytes.now _ c.front.ensures.answer c.front.ensures.within

pub returns-clause-no_control : goal.returns-clause-no_control
returns-clause-no_control c =
    read-seen fault_alone (with_size date_and_time)
    (λ (front : DateAndTime × ℕ). HasNoControl front.1 c.args.bytes.now)
    c.front.result _ c.front.ensures.answer
    (date_time_front-no_control c.args.config.now.microseconds_precision_overflow_behavior
    c.args.bytes.now)
