-- A bound of `between`.
use Rattle.std.specs.Prelude.{ℕ, ℤ, ◌&&◌, ◌||◌, not, Bool, true, false, List, codes, int_lt, length, nat_lt, Option, Some, None, is_some, Result, Ok, Err, if◌then◌else◌}
use Rattle.speedate.specs.Base.{Behavior}
use Rattle.speedate.specs.DateTime.{DateAndTime}
use Rattle.speedate_base.specs.declared.refusal.Refused.{Refused}
use Rattle.speedate_scan.specs.declared.form.Form.{Form}
use Rattle.speedate_scan.specs.Print.{call_kind}
use Rattle.speedate_scan.specs.Reading.{assumed, claims, claims_date, field_claims, instant_of}
use Rattle.speedate_scan.specs.Reading.{whole_of}
use Rattle.speedate_commands.specs.declared.between.Bounds.{Bounds}
use Rattle.speedate_scan.specs.declared.scan.Offsets.{Offsets}
use Rattle.speedate_cli.specs.Word.{is_word}
pub use Rattle.speedate_cli.specs.declared.options.Unordered.{Unordered}
pub use Rattle.speedate_cli.specs.declared.idle.BoundsKind.{BoundsKind}
pub use Rattle.speedate_cli.specs.declared.options.BadBound.{BadBound}

-- values are numbers, and a text begins with one and not with a date
abbrev pub claims_number : Form → List ℕ → Bool
claims_number form text = field_claims form text && not (claims_date text)

-- what a bound is, by what values are: a number is as they are, and a text of at most ten bytes is
-- a date
abbrev pub bound_form : Form → List ℕ → Form
bound_form form text =
    if claims_number form text then form
    else if nat_lt 10 (length text) then Form.DateTime
    else Form.Date

-- the nanosecond of a value that has this text, and whether it has an offset, with the offset that
-- one without gets
abbrev pub bound_at : Option ℤ → Form → List ℕ → DateAndTime → ℤ × Bool
bound_at offset form text value =
    (instant_of form text (assumed offset value), is_some (assumed offset value).time.offset)

-- a bound by its value, or what is bad about it
abbrev pub bound_or_bad : Option ℤ → Form → List ℕ → Result DateAndTime Refused
    → Result (ℤ × Bool) BadBound
bound_or_bad offset form text (Ok value) = Ok (bound_at offset form text value)
bound_or_bad offset form text (Err refused) = Err (BadBound.Refused (call_kind form) refused)

-- a bound that has been given its form
abbrev pub whole_bound : Option ℤ → Form → List ℕ → Result (ℤ × Bool) BadBound
whole_bound offset form text = bound_or_bad offset form text (whole_of form Behavior.Truncate text)

-- a bound by its form: a number has as many digits as the timestamps of lines
abbrev pub bound_by : Option ℤ → Form → List ℕ → Result (ℤ × Bool) BadBound
bound_by offset Form.DateTime text = whole_bound offset Form.DateTime text
bound_by offset Form.Strict text = whole_bound offset Form.Strict text
bound_by offset Form.Date text = whole_bound offset Form.Date text
bound_by offset (Form.Timestamp unit) text =
    if claims (Form.Timestamp unit) text then whole_bound offset (Form.Timestamp unit) text
    else Err (BadBound.FewDigits unit)

-- a bound by its text: a date-time, the midnight of a date, or that of a number
abbrev pub bound_value : Form → Option ℤ → List ℕ → Result (ℤ × Bool) BadBound
bound_value form offset text = bound_by offset (bound_form form text) text

-- Two bounds.

-- bounds of which at least one is not open, and which values fit them
abbrev pub closed : Option ℤ → Option ℤ → Bool → Bounds × Offsets
closed from to has_offset = (record { from = from; to = to }, Offsets.AsBounds has_offset)

-- both hold, or neither does
abbrev pub agree : Bool → Bool → Bool
agree true other = other
agree false other = not other

-- two bounds that have or lack an offset in the same way
abbrev pub in_order : ℤ → ℤ → Bool → Result (Bounds × Offsets) Unordered
in_order first second has_offset =
    if int_lt second first then Err Unordered.Reversed
    else Ok (closed (Some first) (Some second) has_offset)

-- two bounds that were read, and which values fit them: each is an instant, and whether it has an
-- offset
abbrev pub bounds_of : Option (ℤ × Bool) → Option (ℤ × Bool)
    → Result (Bounds × Offsets) Unordered
bounds_of None None = Ok (record { from = None; to = None }, Offsets.Any)
bounds_of (Some from) None = Ok (closed (Some from.0) None from.1)
bounds_of None (Some to) = Ok (closed None (Some to.0) to.1)
bounds_of (Some from) (Some to) =
    if agree from.1 to.1 then in_order from.0 to.0 from.1 else Err Unordered.Mixed

-- What two bounds are.

-- a bound is open
abbrev pub is_open : List ℕ → Bool
is_open text = is_word text (codes "..")

-- a value has an offset of its own
abbrev pub has_own_offset : Result DateAndTime Refused → Bool
has_own_offset (Ok value) = is_some value.time.offset
has_own_offset (Err refused) = false

-- a bound is a date, or a date-time without an offset
abbrev pub is_local : Form → List ℕ → Bool
is_local form text =
    not (is_open text)
    && not (claims_number form text)
    && not (has_own_offset (whole_of (bound_form form text) Behavior.Truncate text))

-- what two bounds are, by their texts
abbrev pub bounds_kind_of : Form → List ℕ → List ℕ → BoundsKind
bounds_kind_of form from to =
    if is_open from && is_open to then BoundsKind.Open
    else if is_local form from || is_local form to then BoundsKind.Local
    else BoundsKind.Fixed
