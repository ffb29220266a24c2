-- Fractions without a seventh digit.
use Rattle.std.proofs.Common.{◌≡◌, ◌∙◌, ℕ, ◌≤◌, ◌<◌, Bool, true, false, List, refl, ap, sym, arith, drop, slice_index, if◌then◌else◌}
use Rattle.std.proofs.lemmas.Bool.{true≢false}
use Rattle.std.proofs.lemmas.Bool.Decides.{nat_tests}
use Rattle.std.proofs.lemmas.List.{get_or-drop}
use Rattle.std.proofs.lemmas.List.Sums.{prefix_len_passes}
use Rattle.std.specs.Char.{is_ascii_digit}
use Rattle.std.specs.Prelude.{nat_le}
use Rattle.speedate_base.specs.Digits.{is_decimal_mark, run_length}
use Rattle.speedate_scan.specs.Fraction.{fraction_size, past_microsecond}

-- a byte that is no digit ends a run before it
seventh : (text : List ℕ) → 6 < run_length text 20
    → is_ascii_digit (slice_index text 26) ≡ true
seventh text long =
    ap is_ascii_digit (sym (get_or-drop 20 text 6 0))
    ∙ prefix_len_passes is_ascii_digit (drop 20 text) 6 0 long

run_short : (text : List ℕ) (test : Bool) → nat_le 7 (run_length text 20) ≡ test
    → is_ascii_digit (slice_index text 26) ≡ false → run_length text 20 ≤ 6
run_short text true is other =
    absurd (true≢false (sym (seventh text (grind (arith, nat_tests, is))) ∙ other))
run_short text false is other = grind (arith, nat_tests, is)

marked_short : (mark : Bool) (size : ℕ) → size ≤ 6 → (if mark then size else 0) ≤ 6
marked_short true size short = short
marked_short false size short = omega arith

size_short : (text : List ℕ) → is_ascii_digit (slice_index text 26) ≡ false
    → fraction_size text ≤ 6
unfolding fraction_size
size_short text other =
    marked_short (is_decimal_mark (slice_index text 19)) (run_length text 20)
    (run_short text (nat_le 7 (run_length text 20)) refl other)

no_digit : (size number : ℕ) → size ≤ 6 → 7 ≤ number → nat_le number size ≡ false
no_digit size number short late = grind (arith, nat_tests, short, late)

pub no_seventh : (text : List ℕ) → is_ascii_digit (slice_index text 26) ≡ false
    → 0 ≡ past_microsecond text
no_seventh text other =
    let short = size_short text other in
    let size = fraction_size text in
    let seventh = no_digit size 7 short (omega arith) in
    let eighth = no_digit size 8 short (omega arith) in
    let ninth = no_digit size 9 short (omega arith) in
    rw (seventh, eighth, ninth) refl
