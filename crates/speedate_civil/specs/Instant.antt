-- What times and date-times share: a move to another offset, and the order by instant.
use Rattle.std.specs.Prelude.{◌≡◌, ◌&&◌, ◌++◌, Bool, IsTrue, List, [], ◌∷◌, Option, Some, ℤ, is_some}
use Rattle.std.specs.Ordering.{is_le, on}
use Rattle.std.specs.declared.cmp.Ordering.{Ordering}
use Rattle.std.specs.declared.cmp.Ordering.TheVariants.{Equal, Less}
use Rattle.speedate_base.specs.Offset.{offset_table}
use Rattle.speedate_base.specs.Requirement.{NumberRow, ◌else_fault◌}
use Rattle.speedate_base.specs.Timestamp.{Instant, instant_order}
use Rattle.speedate_civil.specs.Base.{ParseError}

-- what a move to another offset has to meet: that one is in its range, and there is an old one, at
-- which a clock shows the instant now
abbrev pub move_table : ℤ → Option ℤ → List NumberRow
move_table offset old =
    offset_table (Some offset) ++ (is_some old else_fault ParseError.TzRequired) ∷ []

-- the order of values by their instants, which are those in UTC if both have an offset
abbrev pub by_instant : {K : Type 0} → (K → Option ℤ) → (Bool → K → Instant) → K → K → Ordering
by_instant offset instant first second =
    on (instant (is_some (offset first) && is_some (offset second))) instant_order first second

-- both of two values have an offset, or neither has
abbrev pub BothOrNeither : Option ℤ → Option ℤ → Type 0
BothOrNeither first second = is_some first ≡ is_some second

-- an order of two values says that the first is not after the second
abbrev pub IsNotAfter : Ordering → Type 0
IsNotAfter order = IsTrue (is_le order)

-- by an order the first of three values is before the second, and that before the third, to which
-- the first is equal all the same
abbrev pub IsBeforeNextOnly : {K : Type 0} → (K → K → Ordering) → K → K → K → Type 0
IsBeforeNextOnly order first second third =
    (order first second ≡ Less) × (order second third ≡ Less) × (order first third ≡ Equal)
