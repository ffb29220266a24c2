-- What contracts see of a `Watched`.
use Rattle.std.specs.Prelude.{ℕ, ◌+◌, ◌-◌, ◌^◌, Bool, min}

-- the reader or writer, whether a call of it has failed, whether the last write or flush was a
-- flush that answered Ok, and how often it was read and flushed
pub record Watch (T : Type 0) : Type 0 where
  pub inner : T
  pub failed : Bool
  pub flushed : Bool
  pub reads : ℕ
  pub flushes : ℕ

-- a count of 64 bits after one more call: the largest one stays
abbrev pub one_more : ℕ → ℕ
one_more count = min (count + 1) (2 ^ 64 - 1)
