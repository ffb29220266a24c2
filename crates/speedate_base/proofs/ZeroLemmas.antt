-- Zeros at the front of digits: they spell nothing, and many digits after them a large number.
use Rattle.std.proofs.Common.{rules, ◌≡◌, ℕ, ◌+◌, ◌-◌, ◌*◌, ◌^◌, ◌<◌, ◌≤◌, ◌==◌, true, List, [], ◌∷◌, length, take, drop, min, Ok, refl, arith, lit<, mul-le-mul_right}
use Rattle.std.specs.Char.{is_ascii_digit}
use Rattle.std.specs.List.{list_all}
use Rattle.std.proofs.lemmas.Bool.{and_parts}
use Rattle.std.proofs.lemmas.Bool.Decides.{nat_tests}
use Rattle.std.proofs.lemmas.List.{take-append-drop, length-drop}
use Rattle.std.proofs.lemmas.List.Sums.{take_while-cons, prefix_len_stops, prefix_len-drop_no, prefix_len-drop_all}
use Rattle.std.proofs.Math.Nat.{pow-le-pow_right}
use Rattle.speedate_base.specs.Digits.{one_digit_value, is_digit_zero, zeros_length, run_length}
use Rattle.speedate_base.specs.Digits.{digits_value}
use Rattle.speedate_base.proofs.DigitRunLemmas.{run-on, run-whole, digits_value-append}
use Rattle.speedate_base.proofs.BlockLemmas.{number_or_place}
use Rattle.speedate_base.proofs.NearestLemmas.{scale-some}

-- zeros are digits
zeros-digits : (bytes : List ℕ)
    → list_all is_ascii_digit (take (zeros_length bytes) bytes) ≡ true
zeros-digits [] = refl
zeros-digits (byte ∷ bytes) =
    grind (arith, nat_tests, take_while-cons is_digit_zero byte bytes, zeros-digits bytes)

-- so a run goes on after them
pub zeros-run : (bytes : List ℕ) → zeros_length bytes ≤ length bytes
    → run_length bytes 0 ≡ zeros_length bytes + run_length bytes (zeros_length bytes)
zeros-run bytes within =
    run-on bytes (zeros_length bytes) within (zeros-digits bytes)

-- they spell nothing
zeros-spell : (bytes : List ℕ) → digits_value (take (zeros_length bytes) bytes) ≡ 0
zeros-spell [] = refl
zeros-spell (byte ∷ bytes) =
    grind (arith, nat_tests, take_while-cons is_digit_zero byte bytes, zeros-spell bytes)

pub zeros-value : (bytes : List ℕ)
    → digits_value (drop (zeros_length bytes) bytes) ≡ digits_value bytes
zeros-value bytes =
    let front = take (zeros_length bytes) bytes in
    let rest = drop (zeros_length bytes) bytes in
    search (
      rules,
      take-append-drop (zeros_length bytes) bytes,
      digits_value-append front rest,
      zeros-spell bytes,
    )

-- no zero comes next
zeros-none : (bytes : List ℕ) → zeros_length (drop (zeros_length bytes) bytes) ≡ 0
zeros-none bytes =
    grind (
      arith,
      prefix_len_stops is_digit_zero bytes 0,
      prefix_len-drop_no is_digit_zero bytes (zeros_length bytes) 0,
      prefix_len-drop_all is_digit_zero bytes (zeros_length bytes),
    )

-- digits of which the first is not 0 spell a large number
large-digits : (digits : List ℕ) → list_all is_ascii_digit digits ≡ true
    → zeros_length digits ≡ 0 → 20 < length digits → 2 ^ 64 ≤ digits_value digits
large-digits [] all none many = absurd (omega arith)
large-digits (digit ∷ digits) all none many =
    let parts = and_parts (is_ascii_digit digit) _ all in
    let more : 1 ≤ one_digit_value digit = grind (arith, nat_tests, parts.0, none) in
    let rest : 20 ≤ length digits = omega arith in
    let power : 10 ^ 20 ≤ 10 ^ length digits = pow-le-pow_right {n = 10} (lit< tt) rest in
    omega (arith, mul-le-mul_right (10 ^ length digits) more, power)

-- so after zeros at the front many digits spell a number that is capped
pub long-capped : (digits : List ℕ) → zeros_length digits ≤ length digits
    → run_length digits (zeros_length digits) + zeros_length digits ≡ length digits
    → 20 < length digits - zeros_length digits
    → Ok (2 ^ 64 - 1) ≡ number_or_place digits (min (digits_value digits) (2 ^ 64 - 1))
long-capped digits within ends many =
    let rest : List ℕ = drop (zeros_length digits) digits in
    let run = zeros-run digits within in
    let left = length-drop (zeros_length digits) digits in
    let all : list_all is_ascii_digit rest ≡ true = grind (arith, run-whole rest) in
    let large = large-digits rest all (zeros-none digits) (omega (arith, left)) in
    grind (arith, nat_tests, run, large, zeros-value digits)

-- and few digits the same number with the zeros and without
pub few-left : (digits : List ℕ) → zeros_length digits ≤ length digits
    → run_length digits (zeros_length digits) + zeros_length digits ≡ length digits
    → number_or_place (drop (zeros_length digits) digits)
    (min (digits_value (drop (zeros_length digits) digits)) (2 ^ 64 - 1))
    ≡ number_or_place digits (min (digits_value digits) (2 ^ 64 - 1))
few-left digits within ends = search (rules, zeros-run, zeros-value, length-drop)

-- bytes are digits if and only if what is left without the zeros at their front is
pub zeros-left : (bytes : List ℕ) → zeros_length bytes ≤ length bytes
    → (run_length (drop (zeros_length bytes) bytes) 0 == length (drop (zeros_length bytes) bytes))
    ≡ (run_length bytes 0 == length bytes)
zeros-left bytes within =
    grind (arith, nat_tests, zeros-run bytes within, length-drop (zeros_length bytes) bytes)

-- and many digits that are left spell a large number
pub zeros-large : (bytes : List ℕ)
    → run_length (drop (zeros_length bytes) bytes) 0 ≡ length (drop (zeros_length bytes) bytes)
    → 20 < length (drop (zeros_length bytes) bytes)
    → 2 ^ 64 ≤ digits_value (drop (zeros_length bytes) bytes)
zeros-large bytes all many =
    let rest : List ℕ = drop (zeros_length bytes) bytes in
    let digits : list_all is_ascii_digit rest ≡ true = grind (arith, nat_tests, run-whole rest) in
    large-digits rest digits (zeros-none bytes) many

-- digits spell 0 if and only if all are zeros
pub zeros-whole : (digits : List ℕ) → list_all is_ascii_digit digits ≡ true
    → (zeros_length digits == length digits) ≡ (digits_value digits == 0)
zeros-whole [] all = refl
zeros-whole (digit ∷ digits) all =
    let parts = and_parts (is_ascii_digit digit) _ all in
    let scale = 10 ^ length digits in
    let value = one_digit_value digit in
    let more : 1 ≤ value → 1 * scale ≤ value * scale = mul-le-mul_right scale in
    grind (arith, scale-some (length digits), zeros-whole digits parts.1)

pub ruleset zero_tests = (nat_tests, zeros-whole)
