use Rattle.std.proofs.Common.{rules}
use Rattle.speedate_base.proofs.RefusalLemmas.{seen_then}
use Rattle.speedate.proofs.duration.unsigned.UnsignedDuration.after_hours.Goals as goal

pub returns-in_err-clock : goal.returns-in_err-clock
returns-in_err-clock c = search (rules, seen_then)
