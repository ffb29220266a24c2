use Rattle.std.proofs.Common.{◌∙◌}
use Rattle.speedate.specs.DateTime.{date_time_text}
use Rattle.speedate.specs.Time.{time_text}
use Rattle.speedate_lines.proofs.AnswerLemmas.{reply-printed}
use Rattle.speedate_lines.proofs.answer.answer_text.Goals as goal

pub returns-in-Ok-parse_bytes : goal.returns-in-Ok-parse_bytes
returns-in-Ok-parse_bytes c = record {
  answered = rw c.in-Time.is
      (reply-printed time_text _ _ _ _ _ c.accept-in-Ok-parse_bytes.ensures.answered
      (c.as_str-in-Ok-parse_bytes.ensures.value ∙ c.to_text-in-Ok-parse_bytes.ensures.text)
      c.in-Ok-parse_bytes.ensures.answer);
}

pub returns-in-Ok-parse_bytes-2 : goal.returns-in-Ok-parse_bytes-2
returns-in-Ok-parse_bytes-2 c = record {
  answered = rw c.in-DateTime.is
      (reply-printed date_time_text _ _ _ _ _ c.accept-in-Ok-parse_bytes-2.ensures.answered
      (c.as_str-in-Ok-parse_bytes-2.ensures.value ∙ c.to_text-in-Ok-parse_bytes-2.ensures.text)
      c.in-Ok-parse_bytes-2.ensures.answer);
}
