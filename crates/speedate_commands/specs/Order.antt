-- The order of values: each one, and the one before.
use Rattle.std.specs.Prelude.{ℕ, ℤ, Bool, false, List, [], ◌∷◌, ◌++◌, Option, Some, None, int_lt, codes, if◌then◌else◌}
use Rattle.speedate.specs.Ascii.{line_feed}
use Rattle.speedate_stream.specs.Watch.{one_more}
use Rattle.speedate_scan.specs.Print.{line_place}
use Rattle.speedate_scan.specs.Scan.{passed, settled}
use Rattle.speedate_commands.specs.Base.{Found, LineKind, Scan}
use Rattle.speedate_commands.specs.Nanosecond.{duration_between}
pub use Rattle.speedate_commands.specs.declared.order.Latest.{Latest}
pub use Rattle.speedate_commands.specs.declared.order.Order.{Order}

-- a value of a line, with where it stands
abbrev pub latest_of : Scan → Found → Latest
latest_of scan found = record {
  instant = found.instant;
  offset = found.offset;
  name = scan.name;
  number = one_more scan.number;
}

-- how far two instants are apart, with the words after that
unfoldable pub distance_text : ℤ → ℤ → List ℕ → List ℕ
distance_text first second words = codes ": " ++ duration_between first second ++ words

-- where a value stands, how far from another, and where that stands
unfoldable pub apart_text : List ℕ → ℕ → List ℕ → Latest → List ℕ
apart_text name number distance latest =
    line_place name number ++ distance ++ line_place latest.name.now latest.number
    ++ line_feed ∷ []

-- where a value stands that is earlier than the one before, by how much, and where that stands
abbrev pub late_text : List ℕ → ℕ → ℤ → Latest → List ℕ
late_text name number instant latest =
    apart_text name number (distance_text instant latest.instant (codes " before ")) latest

-- where a value stands that comes after another, how long after it, and where that stands
abbrev pub gap_text : List ℕ → ℕ → ℤ → Latest → List ℕ
gap_text name number instant latest =
    apart_text name number (distance_text latest.instant instant (codes " after ")) latest

-- a value is earlier than the one before
abbrev pub is_before : ℤ → Option Latest → Bool
is_before instant None = false
is_before instant (Some latest) = int_lt instant latest.instant

-- a line has a value that is earlier than the one before
abbrev pub is_late : Order → LineKind → Bool
is_late order (LineKind.Value found) = is_before found.instant order.latest
is_late order LineKind.Late = false
is_late order LineKind.Header = false
is_late order (LineKind.Bad bad) = false
is_late order LineKind.Unfit = false
is_late order LineKind.Undated = false

-- the value before the next line
abbrev pub value_after : Order → LineKind → Option Latest
value_after order (LineKind.Value found) = Some (latest_of order.scan found)
value_after order LineKind.Late = order.latest
value_after order LineKind.Header = order.latest
value_after order (LineKind.Bad bad) = order.latest
value_after order LineKind.Unfit = order.latest
value_after order LineKind.Undated = order.latest

-- how many values were earlier than the one before
abbrev pub late_after : Order → LineKind → ℕ
late_after order line = if is_late order line then one_more order.late else order.late

-- what is known after a line
abbrev pub order_after : Order → LineKind → Order
order_after order line = record {
  scan = passed order.scan line;
  latest = value_after order line;
  late = late_after order line;
}

-- what is known after a line that is bad, of which this value is compared all the same: it settles
-- which values fit, as a good one does
abbrev pub order_after_cut : Order → LineKind → Found → Order
order_after_cut order line found = record (order_after order (LineKind.Value found)) {
  scan = record (passed order.scan line) { offsets = settled order.scan.offsets found };
}
