use Rattle.std.proofs.Common.{◌≡◌, ℕ, ◌<◌, Bool, arith, ap, ◌∙◌, ◌↔◌, IsTrue, is_lt, nat_cmp}
use Rattle.std.proofs.lemmas.Bool.Decides.{nat_tests}
use Rattle.speedate_civil.specs.Date.{ymd}
use Rattle.speedate_civil.proofs.DateOrderLemmas.{date_order-day_number}
use Rattle.speedate_civil.specs.Calendar.{day_number}
use Rattle.speedate_civil.proofs.ValueLemmas.{is_day}
use Rattle.speedate_vectors.proofs.laws.earlier_date.Goals as goal

-- what `<` answers of two numbers
less-is : (first second : ℕ) (answer : Bool) → answer ≡ is_lt (nat_cmp first second)
    → IsTrue answer ↔ first < second
less-is first second answer is =
    (λ holds. grind (arith, nat_tests), λ less. grind (arith, nat_tests))

pub returns : goal.returns
returns c =
    let first = c.args.first.now in
    let second = c.args.second.now in
    let order = date_order-day_number (ymd first) (ymd second) (is_day first) (is_day second) in
    record {
      days = less-is (day_number (ymd first)) (day_number (ymd second)) c.lt.result
          (c.lt.ensures ∙ ap is_lt order);
    }
