use Rattle.std.proofs.Common.{rules}
use Rattle.speedate_lines.proofs.AnswerLemmas.{line_answer-long, line_answer-short}
use Rattle.speedate_lines.proofs.answer.answer_line.Goals as goal

pub returns-then-line-gt-SEEN_MAX : goal.returns-then-line-gt-SEEN_MAX
returns-then-line-gt-SEEN_MAX c = search (rules, line_answer-long)

pub returns-in-None : goal.returns-in-None
returns-in-None c = search (rules, line_answer-short)

pub returns-in-Some : goal.returns-in-Some
returns-in-Some c = search (rules, line_answer-short)
