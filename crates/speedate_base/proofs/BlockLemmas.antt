-- Eight bytes of a text that are looked at together.
use Rattle.std.proofs.Common.{◌≡◌, ℕ, ◌+◌, ◌-◌, ◌*◌, ◌<◌, ◌≤◌, ◌==◌, nat_lt, Bool, true, Some, None, if◌then◌else◌, List, length, take, drop, Result, Ok, Err, arith, rules, ap, ◌∙◌, take-add}
use Rattle.std.specs.Char.{is_ascii_digit}
use Rattle.std.specs.List.{prefix_len, list_all}
use Rattle.std.proofs.lemmas.Bool.Decides.{nat_tests}
use Rattle.std.proofs.lemmas.List.{length-take-le, length-drop, take_rest, drop-drop}
use Rattle.std.proofs.lemmas.List.Sums.{prefix_len-le-length}
use Rattle.speedate_base.specs.Digits.{run_length, digits_value}
use Rattle.speedate_base.proofs.DigitRunLemmas.{run-front, run-on, digits_value-append, run-whole}

-- the eight bytes from a place on
abbrev pub block : List ℕ → ℕ → List ℕ
block bytes place = take 8 (drop place bytes)

pub block-length : (bytes : List ℕ) (place : ℕ) → place + 8 ≤ length bytes
    → length (block bytes place) ≡ 8
block-length bytes place within = search (rules, length-take-le, length-drop)

-- where eight digits stand in front, they are all digits
pub block-all : (bytes : List ℕ) (place count : ℕ) → place + 8 ≤ length bytes
    → count ≡ prefix_len is_ascii_digit (block bytes place) → 8 ≤ count
    → list_all is_ascii_digit (block bytes place) ≡ true
block-all bytes place count within is full = search rules

-- where all bytes of a block pass a test, those that pass go on after it
pub prefix_on : (p : ℕ → Bool) (bytes : List ℕ) (place next : ℕ) → next ≡ place + 16
    → next ≤ length bytes
    → None ≡ (if nat_lt (prefix_len p (take 16 (drop place bytes))) 16
    then Some (prefix_len p (take 16 (drop place bytes))) else None)
    → prefix_len p (drop place bytes) ≡ 16 + prefix_len p (drop next bytes)
prefix_on p bytes place next after within full =
    grind (arith, nat_tests, drop-drop 16 place bytes)

-- a run goes on after digits
digits_on : (bytes : List ℕ) (place count : ℕ) → place + count ≤ length bytes
    → list_all is_ascii_digit (take count (drop place bytes)) ≡ true
    → run_length bytes place ≡ count + run_length bytes (place + count)
digits_on bytes place count within all =
    run-on (drop place bytes) count (omega (arith, length-drop place bytes, within)) all
    ∙ ap (λ (rest : List ℕ). count + prefix_len is_ascii_digit rest) (drop-drop count place bytes)

-- and the run goes on after them
pub block_on : (bytes : List ℕ) (place count : ℕ) → place + 8 ≤ length bytes
    → count ≡ prefix_len is_ascii_digit (block bytes place) → 8 ≤ count
    → run_length bytes place ≡ 8 + run_length bytes (place + 8)
block_on bytes place count within is full =
    digits_on bytes place 8 within (block-all bytes place count within is full)

-- where fewer do, the run ends there
pub block-ends : (bytes : List ℕ) (place count : ℕ) → place + 8 ≤ length bytes
    → count ≡ prefix_len is_ascii_digit (block bytes place) → count < 8
    → run_length bytes place ≡ count
block-ends bytes place count within is less = search (rules, run-front, block-length)

-- and the same for sixteen
pub run_ends : {count : ℕ} (bytes : List ℕ) (place : ℕ) → place + 16 ≤ length bytes
    → Some count ≡ (if nat_lt (prefix_len is_ascii_digit (take 16 (drop place bytes))) 16
    then Some (prefix_len is_ascii_digit (take 16 (drop place bytes))) else None)
    → run_length bytes place ≡ count
run_ends bytes place within less =
    let rest = drop place bytes in
    grind (arith, nat_tests, run-front rest 16, length-take-le 16 rest, length-drop place bytes)

-- eight more digits
pub block-more : (bytes : List ℕ) (place : ℕ) → place + 8 ≤ length bytes
    → digits_value (take (place + 8) bytes)
    ≡ 100000000 * digits_value (take place bytes) + digits_value (block bytes place)
block-more bytes place within = search (rules, take-add, digits_value-append, block-length)

-- the number that digits spell, or the place of the first other byte
abbrev pub number_or_place : List ℕ → ℕ → Result ℕ ℕ
number_or_place digits number =
    if run_length digits 0 == length digits then Ok number else Err (run_length digits 0)

pub is_number : (digits : List ℕ) (number : ℕ) → list_all is_ascii_digit digits ≡ true
    → number_or_place digits number ≡ Ok number
is_number digits number all = search (rules, run-whole)

pub whole_run : (digits : List ℕ) → list_all is_ascii_digit digits ≡ true
    → (run_length digits 0 == length digits) ≡ true
whole_run digits all = search (rules, run-whole)

pub ruleset number_rules = (nat_tests, is_number, whole_run)

pub is-place : (digits : List ℕ) (number place : ℕ) → run_length digits 0 ≡ place
    → place < length digits → number_or_place digits number ≡ Err place
is-place digits number place is within = search rules

-- and only then
pub from-number : (digits : List ℕ) (number read : ℕ) → Ok read ≡ number_or_place digits number
    → (list_all is_ascii_digit digits ≡ true) × (read ≡ number)
from-number digits number read same = search (rules, run-whole)

pub from-place : (digits : List ℕ) (number place : ℕ) → Err place ≡ number_or_place digits number
    → (place ≡ run_length digits 0) × (place < length digits)
from-place digits number place same = grind (arith, nat_tests, prefix_len-le-length)

-- so the first other byte from a place on stands where the run from there ends
pub run_stops : (bytes : List ℕ) (start count number : ℕ) → start ≤ length bytes
    → Err count ≡ number_or_place (take (length bytes - start) (drop start bytes)) number
    → (count ≡ run_length bytes start) × (start + count < length bytes)
run_stops bytes start count number within read = search (rules, from-place, take_rest, length-drop)
