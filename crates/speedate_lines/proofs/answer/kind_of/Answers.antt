use Rattle.std.proofs.Common.{rules}
use Rattle.speedate_lines.specs.Answer.{kind_and_text}
use Rattle.speedate_lines.proofs.answer.kind_of.Goals as goal

pub returns-in-Some : goal.returns-in-Some
unfolding kind_and_text
returns-in-Some c = search rules
