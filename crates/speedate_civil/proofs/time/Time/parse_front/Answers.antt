use Rattle.std.proofs.Common.{◌≡◌, sym, ℕ, ◌≤◌, IfOk, List, length, take, Result, Ok, Err}
use Rattle.speedate_civil.specs.Base.{Behavior, ParseError}
use Rattle.speedate_base.specs.Requirement.{result_map, with_size}
use Rattle.speedate_civil.specs.Time.{end_fault, TimeOfDay, time_front, time_answer, time_of_day}
use Rattle.speedate_civil.specs.Time.{Time}
use Rattle.speedate_base.specs.Ascii.{HasNoControl}
use Rattle.speedate_civil.proofs.NoControlLemmas.{time_front-no_control}
use Rattle.speedate_civil.proofs.FrontLemmas.{time_front-alone}
use Rattle.speedate_base.proofs.RefusalLemmas.{seen-read}
use Rattle.speedate_base.proofs.RequirementLemmas.{alone-iff}
use Rattle.speedate_base.specs.Refused.{without_place}
use Rattle.speedate_base.specs.Requirement.{fault_alone}
use Rattle.speedate_civil.proofs.ReadLemmas.{read-seen}
use Rattle.speedate_civil.proofs.time.Time.parse_front.Goals as goal

pub returns-clause-whole : goal.returns-clause-whole
returns-clause-whole c = λ time.
    rw (c.front.ensures.answer) (alone-iff fault_alone (λ (read : TimeOfDay). end_fault read.offset)
    c.args.bytes.now _ time)

read-alone : (behavior : Behavior) (text : List ℕ) (result : Result (Time × ℕ) ParseError)
    → result_map (with_size time_of_day) result ≡ without_place (time_front behavior text)
    → IfOk result (λ front. front.1 ≤ length text)
    → IfOk result (λ front. time_answer behavior (take front.1 text) ≡ Ok (time_of_day front.0))
read-alone behavior text (Ok front) is within =
    time_front-alone behavior text (time_of_day front.0, front.1)
    (seen-read fault_alone (time_front behavior text) _ (sym is)) within
read-alone behavior text (Err fault) is within = tt

pub returns-clause-alone : goal.returns-clause-alone
returns-clause-alone c =
    read-alone c.args.config.now.microseconds_precision_overflow_behavior c.args.bytes.now _
    c.front.ensures.answer c.front.ensures.within

pub returns-clause-no_control : goal.returns-clause-no_control
returns-clause-no_control c =
    read-seen fault_alone (with_size time_of_day)
    (λ (front : TimeOfDay × ℕ). HasNoControl front.1 c.args.bytes.now)
    c.front.result _ c.front.ensures.answer
    (time_front-no_control c.args.config.now.microseconds_precision_overflow_behavior
    c.args.bytes.now)
