use Rattle.std.proofs.Common.{sym, pos, Some}
use Rattle.speedate.specs.DateTime.{date_and_time, date_time_or_timestamp}
use Rattle.speedate.specs.Requirement.{fault_alone}
use Rattle.speedate_base.proofs.RefusalLemmas.{seen-read}
use Rattle.speedate_scan.proofs.timestamp.library_timestamp.Goals as goal

pub returns-in-Ok-clause-value : goal.returns-in-Ok-clause-value
returns-in-Ok-clause-value c =
    sym (seen-read fault_alone
    (date_time_or_timestamp c.args.unit c.args.behavior (Some (pos 0)) c.args.text.now)
    (date_and_time c.in-Ok.value)
    (rw (
      c.timestamps-config.ensures.unit,
      c.timestamps-config.ensures.behavior,
      c.timestamps-config.ensures.offset,
    ) at (sym c.in-Ok.ensures.answer)))

pub returns-in-Err-clause-value : goal.returns-in-Err-clause-value
returns-in-Err-clause-value c =
    c.value_of.ensures.value c.args.text.now _
    (rw (
      c.timestamps-config.ensures.unit,
      c.timestamps-config.ensures.behavior,
      c.timestamps-config.ensures.offset,
    ) at c.parse_or_place.ensures.answer)
