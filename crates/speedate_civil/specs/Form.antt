-- How each form reads a text: the value with how many bytes it takes, or the text's fault and its
-- place.
use Rattle.std.specs.Prelude.{ℕ, List, length, Result, Ok, Err}
use Rattle.speedate_base.specs.Config.{Choices}
use Rattle.speedate_base.specs.Requirement.{result_map}
use Rattle.speedate_base.specs.declared.refusal.Refused.{Refused}
use Rattle.speedate_civil.specs.Base.{TimestampUnit}
use Rattle.speedate_civil.specs.Calendar.{Ymd}
use Rattle.speedate_civil.specs.Date.{date_answer, date_front, date_or_timestamp}
use Rattle.speedate_civil.specs.DateTime.{DateAndTime, date_time_answer, date_time_front}
use Rattle.speedate_civil.specs.DateTime.{date_time_or_timestamp}
use Rattle.speedate_civil.specs.Loose.{loose_answer, loose_front}
use Rattle.speedate_civil.specs.Strict.{strict_date_time_answer, strict_time_answer}
use Rattle.speedate_civil.specs.Time.{TimeOfDay, time_answer, time_front}
pub use Rattle.speedate_civil.specs.declared.form.DateForm.{DateForm}
pub use Rattle.speedate_civil.specs.declared.form.DateTimeForm.{DateTimeForm}
pub use Rattle.speedate_civil.specs.declared.form.TimeForm.{TimeForm}

-- the answer to a text that is a value as a whole: the value takes all its bytes
abbrev pub with_length : {A : Type 0} → List ℕ → Result A Refused → Result (A × ℕ) Refused
with_length text answer = result_map (λ value. (value, length text)) answer

abbrev pub date_by_form : DateForm → TimestampUnit → List ℕ → Result (Ymd × ℕ) Refused
date_by_form DateForm.Text unit text = with_length text (date_answer text)
date_by_form DateForm.OrTimestamp unit text = with_length text (date_or_timestamp unit text)
date_by_form DateForm.Front unit text = date_front text

abbrev pub time_by_form : TimeForm → Choices → List ℕ → Result (TimeOfDay × ℕ) Refused
time_by_form TimeForm.Text chosen text = with_length text (time_answer chosen.behavior text)
time_by_form TimeForm.Strict chosen text =
    with_length text (strict_time_answer chosen.behavior text)
time_by_form TimeForm.Front chosen text = time_front chosen.behavior text

abbrev pub date_time_by_form : DateTimeForm → Choices → List ℕ → Result (DateAndTime × ℕ) Refused
date_time_by_form DateTimeForm.Text chosen text =
    with_length text (date_time_answer chosen.behavior text)
date_time_by_form DateTimeForm.OrTimestamp chosen text =
    with_length text (date_time_or_timestamp chosen.unit chosen.behavior chosen.offset text)
date_time_by_form DateTimeForm.Strict chosen text =
    with_length text (strict_date_time_answer chosen.behavior text)
date_time_by_form DateTimeForm.Front chosen text = date_time_front chosen.behavior text
date_time_by_form DateTimeForm.Loose chosen text =
    with_length text (loose_answer chosen.behavior text)
date_time_by_form DateTimeForm.LooseFront chosen text = loose_front chosen.behavior text

-- how many bytes the value of a text takes, or the place of the text's error
abbrev pub size_or_place : {A : Type 0} → Result (A × ℕ) Refused → ℕ
size_or_place (Ok front) = front.1
size_or_place (Err refused) = refused.place
