use Rattle.std.proofs.Common.{sym, rules}
use Rattle.speedate_civil.proofs.LooseLemmas.{no_zone_begins}
use Rattle.speedate_civil.proofs.time.zone.zone_after_blank.Goals as goal

pub returns-else-may_begin_zone-clause-zone : goal.returns-else-may_begin_zone-clause-zone
returns-else-may_begin_zone-clause-zone c = sym (no_zone_begins c.args.text.now (search rules))
