-- Rounding: the whole number that is nearest to a fraction.
use Rattle.std.specs.Prelude.{ℕ, ◌+◌, ◌-◌, ◌*◌, ◌/◌, ◌^◌, ◌==◌, Bool, IsTrue, List, min, take, drop, if◌then◌else◌, ℤ, pos, ◌+ℤ◌, ◌-ℤ◌, ◌*ℤ◌, int_le, int_lt}
use Rattle.std.specs.Int.{int_div_euclid}
use Rattle.speedate_base.specs.Digits.{digits_value}

-- m is nearest to n / d: at most a half above it, and less than a half below it; so a tie goes to
-- the greater number
abbrev pub IsNearest : ℤ → ℕ → ℤ → Type 0
IsNearest n d m =
    IsTrue (int_le (pos (2 * d) *ℤ m -ℤ pos d) (pos 2 *ℤ n))
    × IsTrue (int_lt (pos 2 *ℤ n) (pos (2 * d) *ℤ m +ℤ pos d))

-- the number that is nearest to n / d: half more than it, rounded down
abbrev pub nearest : ℤ → ℕ → ℤ
nearest n d = int_div_euclid (pos 2 *ℤ n +ℤ pos d) (pos (2 * d))

-- n / d rounded down, or rounded up
abbrev pub quotient : Bool → ℕ → ℕ → ℕ
quotient up n d = if up then (n + (d - 1)) / d else n / d

-- a lower and an upper bound of twice the unit times the fraction that digits are, rounded: it is
-- less than a whole unit, and rounded up more than nothing, unless all are zeros
abbrev pub rest_bounds : Bool → ℕ → List ℕ → ℕ × ℕ
rest_bounds up unit digits =
    if up then (if digits_value digits == 0 then (0, 0) else (min unit 1, 2 * unit))
    else (0, 2 * unit - 1)

-- twice the unit times the fraction that sixteen digits are, rounded, is the same for both bounds
-- of the digits after them
abbrev pub sixteen_digits_suffice : Bool → ℕ → List ℕ → Bool
sixteen_digits_suffice up unit digits =
    let size = 2 * (digits_value (take 16 digits) * unit) in
    let bounds = rest_bounds up unit (drop 16 digits) in
    quotient up (size + bounds.0) (10 ^ 16) == quotient up (size + bounds.1) (10 ^ 16)
