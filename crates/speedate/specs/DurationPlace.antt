-- Where the items of a duration become too many: the places of the rows of its normal form.
use Rattle.std.specs.Prelude.{ℕ, zero, suc, ◌+◌, ◌-◌, Bool, true, List, [], ◌∷◌, length, drop, slice_index, ◌==◌, if◌then◌else◌}
use Rattle.speedate_civil.specs.Base.{IsoOrder}
use Rattle.speedate_base.specs.Ascii.{capital_p}
use Rattle.speedate.specs.DurationNumbers.{DurationNumbers, UnsignedDuration}
use Rattle.speedate.specs.IsoForm.{IsoSums, item_at, item_text, no_sums, sums_amount, with_item}

-- the numbers of an amount; its sign does not matter here
abbrev pub amount_numbers : UnsignedDuration → DurationNumbers
amount_numbers amount = record {
  positive = true;
  day = amount.day;
  second = amount.second;
  microsecond = amount.microsecond;
}

-- the place of the first item after which a test of the sums does not hold, in what is left of an
-- ISO 8601 duration after some items; the skipped bytes are those of the last item
unfoldable pub first_item_after : (DurationNumbers → Bool) → ℕ → IsoSums → List ℕ → ℕ
first_item_after test skipped sums [] = 0
first_item_after test zero sums (byte ∷ rest) =
    let item = item_at (byte ∷ rest) in
    let next = with_item item sums in
    if test (amount_numbers (sums_amount next))
    then 1 + first_item_after test (length (item_text item) - 1) next rest
    else 0
first_item_after test (suc skipped) sums (byte ∷ rest) = 1 + first_item_after test skipped sums rest

-- the place at which a duration without its sign no longer meets a test: in days and clocks their
-- front
abbrev pub amount_place : IsoOrder → List ℕ → (DurationNumbers → Bool) → ℕ
amount_place order text test =
    if slice_index text 0 == capital_p
    then 1 + first_item_after test 0 (no_sums order) (drop 1 text)
    else 0
