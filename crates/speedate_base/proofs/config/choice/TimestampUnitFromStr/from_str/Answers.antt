use Rattle.std.proofs.Common.{rules}
use Rattle.speedate_base.proofs.config.choice.TimestampUnitFromStr.from_str.Goals as goal

pub returns-else-eq_ignore_ascii_case-4 : goal.returns-else-eq_ignore_ascii_case-4
returns-else-eq_ignore_ascii_case-4 c = search rules
