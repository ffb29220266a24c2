use Rattle.std.proofs.Common.{◌≡◌, ◌∙◌, ap, sym, ℕ, ◌+◌, ◌-◌, ◌≤◌, ◌*◌, Bool, List, [], ◌∷◌, drop, Ok, Option, Some, arith, rules, ℤ, Result, nat_le, nat_lt}
use Rattle.speedate_civil.specs.Base.{ParseError}
use Rattle.std.proofs.lemmas.Bool.Decides.{nat_tests}
use Rattle.std.proofs.lemmas.Grind.{common_steps}
use Rattle.std.proofs.lemmas.Int.{to_z-of_z}
use Rattle.std.proofs.lemmas.Result.{err_from_is_err_and}
use Rattle.speedate_base.specs.Digits.{two_digit_value, eight_at}
use Rattle.speedate_base.specs.Numbers.{with_sign}
use Rattle.speedate_base.specs.Timestamp.{seconds_per_day}
use Rattle.speedate_base.specs.Requirement.{◌at_byte◌, ◌else_fault◌, first_refusal_or, shifted}
use Rattle.speedate_civil.specs.Time.{offset_digits, signed_front, offset_minute}
use Rattle.speedate_civil.specs.Time.{offset_digits_size}
use Rattle.speedate_base.proofs.RefusalLemmas.{first_refusal_or-next, refusal-all, refusal-value}
use Rattle.speedate_base.proofs.PatternLemmas.{eight_at-drop}
use Rattle.speedate_base.proofs.RefusalLemmas.{seen-tables}
use Rattle.speedate_base.specs.Refused.{seen_as}
use Rattle.speedate_civil.proofs.time.offset.signed_offset.Goals as goal

-- hour, minute and length of an offset after its sign, or the refusal of its digits
abbrev numbers_of : {E : Type 0} → (ParseError → ℕ → E) → List ℕ → Result ((ℕ × ℕ) × ℕ) E
numbers_of refuse rest =
    first_refusal_or refuse (offset_digits rest)
    (Ok ((two_digit_value rest 0, offset_minute rest), offset_digits_size rest))

-- eight bytes have them all
eight-enough : {E : Type 0} (refuse : ParseError → ℕ → E) (rest : List ℕ)
    → numbers_of refuse (eight_at rest 0) ≡ numbers_of refuse rest
eight-enough refuse rest = grind (arith, common_steps)

read : {E : Type 0} (refuse : ParseError → ℕ → E) (text front : List ℕ) (place : ℕ)
    (answer : Result ((ℕ × ℕ) × ℕ) E)
    → front ≡ eight_at text place → answer ≡ numbers_of refuse front
    → answer ≡ numbers_of refuse (drop place text)
read refuse text front place answer from is =
    is
    ∙ ap (numbers_of refuse) (from ∙ eight_at-drop place text)
    ∙ eight-enough refuse (drop place text)

-- what is left to decide once they are known
abbrev decided : {E : Type 0} → (ParseError → ℕ → E) → Bool → ℕ → ℕ → (ℕ × ℕ) × ℕ
    → Result (Option ℤ × ℕ) E
decided refuse west sign minute numbers =
    let size = 3600 * numbers.0.0 + 60 * numbers.0.1 in
    let table = (nat_le numbers.0.1 59 else_fault ParseError.OutOfRangeTzMinute at_byte minute)
    ∷ (nat_lt size seconds_per_day else_fault ParseError.OutOfRangeTz at_byte 0)
    ∷ [] in
    first_refusal_or refuse table (Ok (Some (with_sign west size), sign + numbers.1))

known : {E : Type 0} (refuse : ParseError → ℕ → E) (west : Bool) (sign : ℕ) (text front : List ℕ)
    (place : ℕ) (numbers : (ℕ × ℕ) × ℕ)
    → front ≡ eight_at text place → Ok numbers ≡ numbers_of refuse front
    → (decided refuse west sign (numbers.1 - 2) numbers
    ≡ seen_as refuse (signed_front west sign (drop place text))) × (2 ≤ numbers.1)
known refuse west sign text front place numbers from is =
    let rest : List ℕ = drop place text in
    let are = sym (read refuse text front place _ from is) in
    let value = refusal-value refuse (offset_digits rest) _ numbers are in
    search (rules, refusal-all, seen-tables)

pub returns-in_err-hour-clause-answer : goal.returns-in_err-hour-clause-answer
returns-in_err-hour-clause-answer g c =
    let p = err_from_is_err_and c.from_residual.result c.from_residual.ensures.1 in
    let refuse = shifted c.args.start g.E.Refusal.refusal in
    let bytes = c.eight_bytes.ensures.bytes in
    let numbers = c.in_err-hour.ensures.numbers in
    let refused = read refuse c.args.bytes.now _ c.args.place _ bytes numbers in
    grind (arith, nat_tests, first_refusal_or-next, seen-tables)

pub returns-then-minute-gt59-clause-answer : goal.returns-then-minute-gt59-clause-answer
returns-then-minute-gt59-clause-answer g c =
    let refuse = shifted c.args.start g.E.Refusal.refusal in
    let parts : (ℕ × ℕ) × ℕ = ((c.in_ok-hour.hour, c.in_ok-hour.minute), c.in_ok-hour.size) in
    let bytes = c.eight_bytes.ensures.bytes in
    let of_text = known refuse c.args.west c.args.sign c.args.bytes.now _ c.args.place parts in
    let is = of_text bytes c.in_ok-hour.ensures.numbers in
    grind (arith, nat_tests) ∙ is.0

pub returns-then-seconds-ge-SECONDS_PER_DAY-clause-answer
    : goal.returns-then-seconds-ge-SECONDS_PER_DAY-clause-answer
returns-then-seconds-ge-SECONDS_PER_DAY-clause-answer g c =
    let refuse = shifted c.args.start g.E.Refusal.refusal in
    let parts : (ℕ × ℕ) × ℕ = ((c.in_ok-hour.hour, c.in_ok-hour.minute), c.in_ok-hour.size) in
    let bytes = c.eight_bytes.ensures.bytes in
    let of_text = known refuse c.args.west c.args.sign c.args.bytes.now _ c.args.place parts in
    let is = of_text bytes c.in_ok-hour.ensures.numbers in
    grind (arith, nat_tests, c.from.ensures, c.from-2.ensures) ∙ is.0

pub returns-clause-answer : goal.returns-clause-answer
returns-clause-answer g c =
    let refuse = shifted c.args.start g.E.Refusal.refusal in
    let parts : (ℕ × ℕ) × ℕ = ((c.in_ok-hour.hour, c.in_ok-hour.minute), c.in_ok-hour.size) in
    let bytes = c.eight_bytes.ensures.bytes in
    let of_text = known refuse c.args.west c.args.sign c.args.bytes.now _ c.args.place parts in
    let is = of_text bytes c.in_ok-hour.ensures.numbers in
    search (rules, to_z-of_z)

pub returns-clause-within : goal.returns-clause-within
returns-clause-within g c = grind (arith, common_steps)

pub returns-in_err-hour-clause-placed : goal.returns-in_err-hour-clause-placed
returns-in_err-hour-clause-placed g c = grind (arith, common_steps)

pub returns-then-minute-gt59-clause-placed : goal.returns-then-minute-gt59-clause-placed
returns-then-minute-gt59-clause-placed g c = grind (arith, common_steps)
