-- Texts that claim to be dates.
use Rattle.std.proofs.Common.{◌≡◌, ◌≢◌, ◌≤◌, ℕ, ◌+◌, ◌==◌, Bool, true, false, ◌&&◌, nat_le, List, [], ◌∷◌, codes, slice_index, length, take, refl, arith, rules, Ok, if◌then◌else◌}
use Rattle.std.proofs.lemmas.Bool.Decides.{nat_tests}
use Rattle.speedate_base.specs.Digits.{eight_at, fit_length}
use Rattle.speedate.specs.Base.{Behavior}
use Rattle.speedate.specs.DateTime.{DateAndTime}
use Rattle.speedate.specs.Loose.{loose_value}
use Rattle.speedate.specs.Refused.{placed}
use Rattle.speedate.specs.Requirement.{fault_alone, first_fault_or}
use Rattle.speedate.specs.Strict.{strict_date_time}
use Rattle.speedate_base.proofs.RefusalLemmas.{refusal-all, refusal-ok}
use Rattle.speedate_civil.proofs.FrontLemmas.{date_time_front-alone}
use Rattle.speedate_scan.specs.Reading.{claims_date, left_bracket, length_before_value}
use Rattle.speedate_scan.specs.Reading.{library_front, strict_front, strict_whole}

-- five or more of nested tests hold if and only if the first five do
five_of : (a b c d e : Bool) (n : ℕ)
    → nat_le 5 (if a then 1 + (if b then 1 + (if c then 1 + (if d then 1
    + (if e then 1 + n else 0) else 0) else 0) else 0) else 0)
    ≡ (a && b && c && d && e)
five_of false b c d e n = refl
five_of true false c d e n = refl
five_of true true false d e n = refl
five_of true true true false e n = refl
five_of true true true true false n = refl
five_of true true true true true n = grind (arith, nat_tests)

-- a text claims to be a date if five or more of its first bytes fit the pattern of one
pub claims_by_length : (text : List ℕ)
    → nat_le 5 (fit_length (codes "0000-00-") (eight_at text 0)) ≡ claims_date text
unfolding claims_date
claims_by_length text = five_of _ _ _ _ _ _

-- no byte order mark and no bracket begins a text whose first byte is another
pub no_mark_begins : (text : List ℕ) → slice_index text 0 ≢ left_bracket
    → slice_index text 0 ≢ 239 → length_before_value text ≡ 0
no_mark_begins [] bracket mark = refl
no_mark_begins (byte ∷ bytes) bracket mark =
    let no_mark : (239 == byte) ≡ false = grind (arith, nat_tests) in
    let no_bracket : (byte == left_bracket) ≡ false = grind (arith, nat_tests) in
    rw (no_mark, no_bracket) refl

-- a text that begins with a date-time claims to be one
pub loose_claims : (behavior : Behavior) (text : List ℕ) (front : DateAndTime × ℕ)
    → loose_value behavior text ≡ Ok front → claims_date text ≡ true
unfolding claims_date loose_value
loose_claims behavior text front read = search rules

-- the date-time that the library reads at the front is that of RFC 3339, where its own text is one
pub strict_is_front : (behavior : Behavior) (text : List ℕ) (front : DateAndTime × ℕ)
    → library_front behavior text ≡ Ok front → front.1 ≤ length text
    → first_fault_or {A = Unit {0}} (strict_date_time (take front.1 text)) (Ok tt) ≡ Ok tt
    → strict_front behavior text ≡ Ok front
unfolding library_front strict_whole strict_front
strict_is_front behavior text front read within holds =
    let alone = date_time_front-alone behavior text front read within in
    let all = refusal-ok {A = Unit {0}} fault_alone (strict_date_time (take front.1 text))
    (Ok tt) tt holds in
    let whole = refusal-all placed (strict_date_time (take front.1 text)) (Ok front.0) all.0 in
    rw (read, alone, whole) refl
