-- The lines of a ledger, each of which begins with a date.
use Rattle.std.specs.Prelude.{ℕ, Bool, false, List, Result, Ok, Err}
use Rattle.speedate.specs.Base.{ParseError}
use Rattle.std.specs.Ordering.{is_le}
use Rattle.speedate.specs.Calendar.{Ymd, date_order}
use Rattle.speedate.specs.Date.{date_front}
use Rattle.speedate.specs.Refused.{without_place}

-- two dates that were read are in order; what was refused is not
abbrev pub dates_in_order : Result (Ymd × ℕ) ParseError → Result (Ymd × ℕ) ParseError → Bool
dates_in_order (Ok date) (Ok later) = is_le (date_order date.0 later.0)
dates_in_order (Ok date) (Err fault) = false
dates_in_order (Err fault) later = false

-- two lines begin with dates, and the second's is not before the first's
abbrev pub is_in_order : List ℕ → List ℕ → Bool
is_in_order line next =
    dates_in_order (without_place (date_front line)) (without_place (date_front next))
