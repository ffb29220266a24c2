-- Texts that lie one after the other in the same bytes, cut by offsets, and the column of them.
use Rattle.std.specs.Prelude.{◌≡◌, ℕ, ◌-◌, Bool, true, false, ◌&&◌, ◌==◌, List, [], ◌∷◌, length, get_or, take, drop, min, ℤ, pos, int_le, unsigned_abs, Option, Some, None, Result, if◌then◌else◌}
use Rattle.speedate.specs.declared.column.Progress.{Progress}
use Rattle.speedate.specs.Column.{LineConfig, LineError, column, ended_part, overwritten}

-- whether no offset is less than the one before it, which is `least` for the first, or beyond so
-- many bytes
abbrev pub rise_within : ℤ → ℕ → List ℤ → Bool
rise_within least size [] = true
rise_within least size (offset ∷ offsets) =
    int_le least offset && (int_le offset (pos size) && rise_within offset size offsets)

-- the bytes from one offset up to another
abbrev pub bytes_between : ℤ → ℤ → List ℕ → List ℕ
bytes_between start end bytes =
    take (unsigned_abs end - unsigned_abs start) (drop (unsigned_abs start) bytes)

-- the text from each offset up to the next one
abbrev pub cut_at : List ℤ → List ℕ → List (List ℕ)
cut_at [] bytes = []
cut_at (start ∷ []) bytes = []
cut_at (start ∷ end ∷ ends) bytes = bytes_between start end bytes ∷ cut_at (end ∷ ends) bytes

-- the texts of bytes, if no offset is negative, less than the one before it, or beyond the bytes
abbrev pub texts_of : List ℤ → List ℕ → Option (List (List ℕ))
texts_of offsets bytes =
    if rise_within (pos 0) (length bytes) offsets then Some (cut_at offsets bytes) else None

-- how many texts there is room for, by the room for numbers and for errors, if these are written
abbrev pub text_room : ℕ → ℕ → ℕ
text_room numbers errors = if errors == 0 then numbers else min numbers errors

-- no carriage return is dropped from a text
abbrev pub as_it_is : LineConfig
as_it_is = record { at_end = true; drops_returns = false }

-- what a call leaves of the texts that it reads: their numbers over the front of those that were
-- there, likewise the numbers of their errors, and how far it has come, with the part of the text
-- that ends the column
pub record IsTextColumn {N : Type 0} (answer : List ℕ → Result N LineError) (place : List ℕ → ℕ)
    (refused : Option N) (texts : List (List ℕ)) (offsets : List ℤ) (out_old out_new : List N)
    (errors_old errors_new : List ℕ) (progress : Progress) : Type 0 where
  pub numbers : out_new ≡ overwritten out_old (column answer refused texts).numbers
  pub errors : errors_new ≡ overwritten errors_old (column answer refused texts).errors
  pub lines : progress.lines ≡ length (column answer refused texts).numbers
  pub bytes : pos progress.bytes ≡ get_or offsets progress.lines (pos 0)
  pub error : progress.error ≡ (column answer refused texts).fault
  pub part : (progress.place, progress.end)
      ≡ ended_part place as_it_is progress.error (drop progress.lines texts)
