-- What the machine of the program prints is the answers to lines.
use Rattle.std.proofs.Common.{◌≡◌, ◌∙◌, ap, sym, refl, inl, inr, ℕ, List, [], ◌∷◌, length, append-nil, nat_lt, arith}
use Rattle.std.proofs.lemmas.Bool.{cases_lt}
use Rattle.std.proofs.lemmas.List.{take_all, length-take}
use Rattle.std.proofs.Math.Bool.{and-false}
use Rattle.speedate.specs.Lines.{complete_lines, unfinished_line}
use Rattle.speedate_lines.specs.Answer.{answering, answers, line_answer}
use Rattle.speedate_lines.specs.declared.answer.Answering.{Answering}
use Rattle.speedate_lines.proofs.AnswerLemmas.{line_answer-long}
use Rattle.speedate_stream.specs.Machine.{head, lines_output, longest_line, progress}

-- a line answers as its head does
line_answer-kept : (line : List ℕ) → line_answer (head line) ≡ line_answer line
line_answer-kept line = elim (cases_lt 4096 (length line)) [
  | inr short ↦ ap line_answer (take_all 4097 line (omega arith))
  | inl long ↦
      line_answer-long (head line) (omega (arith, length-take 4097 line))
      ∙ sym (line_answer-long line long)
]

pub lines_output-answers : (state : Answering) (all : List (List ℕ))
    → lines_output answering state all ≡ answers all
lines_output-answers state [] = refl
lines_output-answers state (line ∷ others) =
    rw (line_answer-kept line, append-nil, lines_output-answers state others) refl

pub progress-answers : (state : Answering) (text : List ℕ)
    → progress answering state text ≡ answers (complete_lines text)
progress-answers state text =
    rw (and-false (nat_lt longest_line (length (unfinished_line text))))
    (append-nil _ ∙ lines_output-answers state (complete_lines text))
