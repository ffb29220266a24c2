use Rattle.std.proofs.Common.{◌∙◌, ap, sym, drop}
use Rattle.std.proofs.lemmas.List.{take_rest}
use Rattle.speedate_civil.specs.Time.{offset_minute_place}
use Rattle.speedate_civil.specs.Loose.{zone_in_use}
use Rattle.speedate_civil.proofs.time.zone.minute_zone.Goals as goal

pub returns-in-None-clause-zone : goal.returns-in-None-clause-zone
returns-in-None-clause-zone c =
    ap (zone_in_use c.args.west (offset_minute_place (drop 1 c.args.text.now)))
    (sym c.in-None.is ∙ rw (take_rest c.args.text.now 1) at c.hour_and_minute.ensures.numbers)
