-- Columns of texts that offsets cut out of the same bytes, from outside: what a call leaves.
use Rattle.std.specs.Prelude.{◌≡◌, ℕ, not, ◌||◌, ◌==◌, List, length, get_or, drop, take, ℤ, pos, Option, MatchOption}
use Rattle.speedate.specs.Column.{column, overwritten}
use Rattle.speedate.specs.Texts.{as_it_is, text_room, texts_of}
use Rattle.speedate_c.specs.Code.{success, value_out_of_range}
use Rattle.speedate_c.specs.Column.{LineCall, ended_code, left_part, on_refusal}
use Rattle.speedate_c.specs.declared.column.ColumnChoices.{ColumnChoices}
use Rattle.speedate_c.specs.declared.column.SpeedateProgress.{SpeedateProgress}

-- the number of a text that is refused, where the column goes on after it, as it does with errors
abbrev pub on_refused_text : {N : Type 0} → ColumnChoices → N → List ℕ → Option N
on_refused_text choices least errors =
    on_refusal (choices.goes_on || not (length errors == 0)) least

-- what a call leaves of the texts that it reads: their numbers over the front of those that were
-- there, likewise the numbers of their errors, and how far it has come, with the part of the text
-- that ends the column
pub record IsTexts {N : Type 0} (call : LineCall N) (refused : Option N) (texts : List (List ℕ))
    (offsets : List ℤ) (before after : List N) (errors_before errors_after : List ℕ)
    (progress : SpeedateProgress) : Type 0 where
  pub numbers : after ≡ overwritten before (column call.answer refused texts).numbers
  pub errors : errors_after ≡ overwritten errors_before (column call.answer refused texts).errors
  pub lines : progress.lines ≡ length (column call.answer refused texts).numbers
  pub bytes : pos progress.bytes ≡ get_or offsets progress.lines (pos 0)
  pub error : progress.error ≡ ended_code (column call.answer refused texts).fault
  pub part : progress.part
      ≡ left_part call as_it_is (column call.answer refused texts).fault
      (drop progress.lines texts)

-- the code of a call, and what it leaves: nothing is changed where the offsets are out of range,
-- and otherwise as many texts are read as there is room for
abbrev pub IsTextsCall : {N : Type 0} → LineCall N → ColumnChoices → N → List ℕ → List ℤ → List N
    → List N → List ℕ → List ℕ → SpeedateProgress → SpeedateProgress → ℤ → Type 0
IsTextsCall call choices least bytes offsets before after errors_before errors_after
    progress_before progress_after code =
    MatchOption (texts_of offsets bytes)
    ((code ≡ value_out_of_range) × (after ≡ before) × (errors_after ≡ errors_before)
    × (progress_after ≡ progress_before))
    (λ texts. (code ≡ success)
    × IsTexts call (on_refused_text choices least errors_before)
    (take (text_room (length before) (length errors_before)) texts) offsets before after
    errors_before errors_after progress_after)
