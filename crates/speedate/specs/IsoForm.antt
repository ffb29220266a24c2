-- The durations of ISO 8601 after their `P`, in the format with designators: years, months, weeks
-- and days, and after a `T` hours, minutes and seconds. Departs from it: components may come in any
-- order on their side and more than once, unless a configuration asks for the order of the
-- standard; weeks may come beside other components; a decimal mark may have no digits after it; a
-- `T` may come last; a year has 365 days and a month 30; a sign may come before the `P`; numbers
-- and sums are at most 4,294,967,295; the alternative format, as in `P0001-02-03T04:05:06`, is
-- refused.
use Rattle.std.specs.Prelude.{◌≡◌, ℕ, ◌+◌, ◌-◌, ◌*◌, ◌/◌, ◌%◌, ◌^◌, Bool, true, false, not, IsTrue, ◌&&◌, ◌||◌, List, [], ◌∷◌, ◌++◌, length, take, drop, slice_index, nat_le, nat_lt, ◌==◌, if◌then◌else◌, Option, Some, None, pos, unsigned_abs, Result, Ok, Err}
use Rattle.std.specs.Char.{is_ascii_digit}
use Rattle.std.specs.List.{list_all, flat_map}
use Rattle.std.specs.Option.{is_some}
use Rattle.speedate_civil.specs.Base.{IsoOrder, ParseError}
use Rattle.speedate_base.specs.Ascii.{capital_d, capital_h, capital_m, capital_s, capital_t}
use Rattle.speedate_base.specs.Ascii.{capital_w, capital_y}
use Rattle.speedate_base.specs.Digits.{run_length, digits_value, is_decimal_mark}
use Rattle.speedate_base.specs.Nearest.{nearest}
use Rattle.speedate_base.specs.Timestamp.{seconds_per_day}
use Rattle.speedate_base.specs.Requirement.{TextRow, ◌at_byte◌, ◌else_fault◌, first_fault_or}
use Rattle.speedate_base.specs.Requirement.{AllHold}
use Rattle.speedate.specs.DurationNumbers.{UnsignedDuration}

-- a unit of a duration by its designator, and what one of it is: whole days, or seconds
pub record IsoUnit : Type 0 where
  pub designator : ℕ
  pub day : ℕ
  pub second : ℕ

abbrev pub unit : ℕ → ℕ → ℕ → IsoUnit
unit designator day second = record { designator = designator; day = day; second = second }

-- the units before the `T`, and those after it, in the order of the standard
abbrev pub units : Bool → List IsoUnit
units false =
    unit capital_y 365 0 ∷ unit capital_m 30 0 ∷ unit capital_w 7 0 ∷ unit capital_d 1 0 ∷ []
units true = unit capital_h 0 3600 ∷ unit capital_m 0 60 ∷ unit capital_s 0 1 ∷ []

-- the unit of a designator, if the designator has one
abbrev pub unit_in : List IsoUnit → ℕ → Option IsoUnit
unit_in [] designator = None
unit_in (unit ∷ units) designator =
    if designator == unit.designator then Some unit else unit_in units designator

-- the units that follow the one of a designator
abbrev pub units_after : ℕ → List IsoUnit → List IsoUnit
units_after designator [] = []
units_after designator (unit ∷ units) =
    if designator == unit.designator then units else units_after designator units

-- a component: the digits of its number, its fraction, which is a decimal mark and digits or
-- nothing, and the designator of its unit
pub record ComponentText : Type 0 where
  pub number : List ℕ
  pub fraction : List ℕ
  pub designator : ℕ

-- the place of the designator in a component
abbrev pub designator_place : ComponentText → ℕ
designator_place component = length component.number + length component.fraction

-- an item: a `T`, or a component
pub data Item : Type 0 where
  TimeDesignator : Item
  Component : ComponentText → Item

-- the text of an item
abbrev pub item_text : Item → List ℕ
item_text TimeDesignator = capital_t ∷ []
item_text (Component component) =
    component.number ++ component.fraction ++ component.designator ∷ []

-- a fraction is nothing, or a decimal mark and digits, possibly none
abbrev pub IsFraction : List ℕ → Type 0
IsFraction [] = Unit {0}
IsFraction (mark ∷ digits) = IsTrue (is_decimal_mark mark) × IsTrue (list_all is_ascii_digit digits)

-- an item is a `T`, or a component whose number is digits and whose fraction is one; its designator
-- may be any byte
abbrev pub IsItem : Item → Type 0
IsItem TimeDesignator = Unit {0}
IsItem (Component component) =
    IsTrue (list_all is_ascii_digit component.number) × IsFraction component.fraction

-- how many bytes the fraction has that stands at the front of a text
abbrev pub fraction_size : List ℕ → ℕ
fraction_size text = if is_decimal_mark (slice_index text 0) then 1 + run_length text 1 else 0

-- the item that begins a text, whole or cut short: after the end of the text its designator is 0
abbrev pub component_at : List ℕ → ComponentText
component_at text =
    let rest = drop (run_length text 0) text in
    record {
      number = take (run_length text 0) text;
      fraction = take (fraction_size rest) rest;
      designator = slice_index rest (fraction_size rest);
    }

abbrev pub item_at : List ℕ → Item
item_at text =
    if slice_index text 0 == capital_t then TimeDesignator else Component (component_at text)

-- what some items of an ISO 8601 duration add up to: whether there was a `T`, a fraction, a
-- component; days, seconds and microseconds. And the order in which components have to come, with
-- the units that may still come on the side that is reached
pub record IsoSums : Type 0 where
  pub order : IsoOrder
  pub next_units : List IsoUnit
  pub is_time : Bool
  pub has_fraction : Bool
  pub has_component : Bool
  pub day : ℕ
  pub second : ℕ
  pub microsecond : ℕ

-- the sums of no items
abbrev pub no_sums : IsoOrder → IsoSums
no_sums order =
    record {
      order = order;
      next_units = units false;
      is_time = false;
      has_fraction = false;
      has_component = false;
      day = 0;
      second = 0;
      microsecond = 0;
    }

-- the seconds of one of a unit
abbrev pub unit_seconds : IsoUnit → ℕ
unit_seconds unit = seconds_per_day * unit.day + unit.second

-- the whole seconds of a fraction of a unit
abbrev pub fraction_seconds : IsoUnit → List ℕ → ℕ
fraction_seconds unit digits = digits_value digits * unit_seconds unit / 10 ^ length digits

-- the nearest microseconds of a fraction of a unit, less its whole seconds: 1,000,000 if it is
-- rounded up to a second
abbrev pub fraction_microseconds : IsoUnit → List ℕ → ℕ
fraction_microseconds unit digits =
    unsigned_abs (nearest (pos (digits_value digits * (1000000 * unit_seconds unit)))
    (10 ^ length digits))
    - 1000000 * fraction_seconds unit digits

-- the units that may come after that of a designator: in the strict order those that follow it, in
-- the lax one its whole side
abbrev pub next_units_after : IsoOrder → Bool → ℕ → List IsoUnit → List IsoUnit
next_units_after IsoOrder.Lax is_time designator next = units is_time
next_units_after IsoOrder.Strict is_time designator next = units_after designator next

-- the sums with a number of a unit, and with a fraction of it
abbrev pub with_number : IsoUnit → ℕ → List ℕ → IsoSums → IsoSums
with_number unit number fraction sums =
    let digits = drop 1 fraction in
    record {
      order = sums.order;
      next_units = next_units_after sums.order sums.is_time unit.designator sums.next_units;
      is_time = sums.is_time;
      has_fraction = sums.has_fraction || nat_lt 0 (length fraction);
      has_component = true;
      day = sums.day + number * unit.day + fraction_seconds unit digits / seconds_per_day;
      second = sums.second + number * unit.second + fraction_seconds unit digits % seconds_per_day;
      microsecond = sums.microsecond + fraction_microseconds unit digits;
    }

-- the days and the seconds of sums are each counted in 32 bits; their microseconds, of one fraction
-- at most, are not tested
abbrev pub are_counted : IsoSums → Bool
are_counted sums = nat_le sums.day 4294967295 && nat_le sums.second 4294967295

-- the sums with an item; a component whose designator has no unit adds nothing
abbrev pub with_component : Option IsoUnit → ComponentText → IsoSums → IsoSums
with_component None component sums = sums
with_component (Some unit) component sums =
    with_number unit (digits_value component.number) component.fraction sums

abbrev pub with_item : Item → IsoSums → IsoSums
with_item TimeDesignator sums = record sums { is_time = true; next_units = units true }
with_item (Component component) sums =
    with_component (unit_in (units sums.is_time) component.designator) component sums

-- what an item has to meet after others. A `T`: it is the first one, also after a fraction. A
-- component: it has digits; its number is counted in 32 bits; no component before it has a
-- fraction; its unit is one of its side, and one that may still come; and the sums with it are
-- counted in 32 bits. Places count from the item
abbrev pub item_table : IsoSums → Item → List TextRow
item_table sums TimeDesignator =
    (not sums.is_time else_fault ParseError.DurationTRepeated at_byte 0) ∷ []
item_table sums (Component component) =
    (nat_lt 0 (length component.number) else_fault ParseError.DurationInvalidNumber at_byte 0)
    ∷ (nat_le (digits_value component.number) 4294967295
    else_fault ParseError.DurationValueTooLarge at_byte 0)
    ∷ (not sums.has_fraction else_fault ParseError.DurationInvalidFraction at_byte 0)
    ∷ (is_some (unit_in (units sums.is_time) component.designator)
    else_fault (if sums.is_time then ParseError.DurationInvalidTimeUnit
    else ParseError.DurationInvalidDateUnit) at_byte designator_place component)
    ∷ (is_some (unit_in sums.next_units component.designator)
    else_fault ParseError.DurationUnitOrder at_byte designator_place component)
    ∷ (are_counted (with_item (Component component) sums)
    else_fault ParseError.DurationValueTooLarge at_byte 0)
    ∷ []

-- the sums of a list of items after others
abbrev pub with_items : List Item → IsoSums → IsoSums
with_items [] sums = sums
with_items (item ∷ items) sums = with_items items (with_item item sums)

-- each of a list of items is an item, and meets the table after those before it
abbrev pub AreGood : IsoSums → List Item → Type 0
AreGood sums [] = Unit {0}
AreGood sums (item ∷ items) =
    IsItem item × AllHold (item_table sums item) × AreGood (with_item item sums) items

-- the amount that sums are
abbrev pub sums_amount : IsoSums → UnsignedDuration
sums_amount sums = record { day = sums.day; second = sums.second; microsecond = sums.microsecond }

-- how good items end: with nothing after them, and a component among them or not; or with an item
-- that fails
abbrev pub Ends : IsoSums → List ℕ → Result UnsignedDuration ParseError → Type 0
Ends sums [] answer =
    answer ≡ (if sums.has_component then Ok (sums_amount sums) else Err ParseError.TooShort)
Ends sums (byte ∷ rest) answer =
    (fault : ParseError) × (first_fault_or (item_table sums (item_at (byte ∷ rest)))
    (Ok (sums_amount sums)) ≡ Err fault) × (answer ≡ Err fault)

-- a text after items is a front of good items, and a rest at which they end with an answer
pub record IsEndedFront (sums : IsoSums) (text : List ℕ) (items : List Item) (rest : List ℕ)
    (answer : Result UnsignedDuration ParseError) : Type 0 where
  pub is_text : text ≡ flat_map item_text items ++ rest
  pub are_good : AreGood sums items
  pub ends : Ends (with_items items sums) rest answer

-- an answer to a text after items of an ISO 8601 duration: the text has a front of good items that
-- ends with it
abbrev pub IsAnswerFrom : IsoSums → List ℕ → Result UnsignedDuration ParseError → Type 0
IsAnswerFrom sums text answer =
    (items : List Item) × (rest : List ℕ) × IsEndedFront sums text items rest answer
