use Rattle.std.proofs.Common.{rules, ◌≡◌, ◌∙◌, ap, sym, refl, ℕ, ◌≤◌, List, take, drop, arith, take-take}
use Rattle.std.proofs.lemmas.Grind.{common_steps}
use Rattle.speedate_base.specs.Digits.{run_length, run_digits, fraction_value}
use Rattle.speedate_base.proofs.DigitRunLemmas.{fraction_value-take}
use Rattle.speedate_base.proofs.EightDigitsLemmas.{fit-run, known, known-more, known-within}
use Rattle.speedate_base.proofs.EightDigitsLemmas.{run-value}
use Rattle.speedate_base.proofs.numbers.fraction.Fraction.read.Goals as goal

pub run_end-requires : goal.run_end-requires
run_end-requires c = grind (arith, common_steps, known, known-within)

pub six_places-requires-clause-digits : goal.six_places-requires-clause-digits
six_places-requires-clause-digits c = search (rules, fit-run)

pub returns-in-8-clause-length : goal.returns-in-8-clause-length
returns-in-8-clause-length c = grind (arith, common_steps, known, known-more)

pub returns-in_default-clause-within : goal.returns-in_default-clause-within
returns-in_default-clause-within c = grind (arith, common_steps, known, known-within)

pub returns-in-0-clause-length : goal.returns-in-0-clause-length
returns-in-0-clause-length c = grind (arith, common_steps, known)

-- no digits mean 0
none-value : (text : List ℕ) (count : ℕ) → 0 ≡ count → 0 ≡ fraction_value 6 (take count text)
none-value text count none = rw (sym none) refl

pub returns-in-0-clause-microsecond : goal.returns-in-0-clause-microsecond
returns-in-0-clause-microsecond c = grind (arith, common_steps, known, none-value)

pub returns-in_default-clause-length : goal.returns-in_default-clause-length
returns-in_default-clause-length c =
    let text = c.args.bytes.now in
    let count = c.digits_in_front.ensures.count in
    let is = known text _ c.args.place _ c.eight_bytes-front.ensures.bytes count in
    omega (arith, is.counted)

pub returns-in_default-clause-microsecond : goal.returns-in_default-clause-microsecond
returns-in_default-clause-microsecond c = search (rules, known, run-value)

pub returns-in-8-clause-microsecond : goal.returns-in-8-clause-microsecond
returns-in-8-clause-microsecond c =
    let text = c.args.bytes.now in
    let place = c.args.place in
    let rest : List ℕ = drop place text in
    let count = sym c.in-8.is ∙ c.digits_in_front.ensures.count in
    let is = known text _ place 8 c.eight_bytes-front.ensures.bytes count in
    let whole : 6 ≤ run_length text place = omega (arith, is.counted) in
    let of_eight = take-take 6 8 rest (omega arith) in
    let of_run = take-take 6 (run_length text place) rest whole in
    c.six_places.ensures.microsecond
    ∙ ap (fraction_value 6) is.digits
    ∙ sym (fraction_value-take 6 (take 8 rest))
    ∙ ap (fraction_value 6) (of_eight ∙ sym of_run)
    ∙ fraction_value-take 6 (run_digits text place)
