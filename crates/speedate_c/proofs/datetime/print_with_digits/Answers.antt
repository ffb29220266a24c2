use Rattle.std.proofs.Common.{◌≡◌, SFits, w32, to_z-of_z, Option, Some, Result, Ok, refl, rules, ◌∙◌, ap, sym}
use Rattle.speedate.specs.Base.{ParseError}
use Rattle.speedate.specs.DateTime.{date_and_time, date_time_text_with}
use Rattle.speedate_c.specs.Code.{value_out_of_range}
use Rattle.speedate_c.specs.DateTime.{date_time_of}
use Rattle.speedate_c.specs.Time.{fraction_digits_of}
use Rattle.speedate_c.specs.Written.{with_option, with_value, written_text}
use Rattle.speedate_c.proofs.datetime.print_with_digits.Goals as goal

-- what follows from both values, where there are both
both : {A B C : Type 0} (first : Option A) (second : Result B ParseError) (one : A) (two : B)
    (refused : C) (next : A → B → C) → first ≡ Some one → second ≡ Ok two
    → next one two
    ≡ with_option first refused (λ found. with_value second refused (λ value. next found value))
both first second one two refused next is same = rw (is, same) refl

pub returns-clause-after : goal.returns-clause-after
returns-clause-after c =
    let buffer = c.args.buffer.now in
    let size = c.args.text_length.now in
    let bytes = c.as_str.ensures.value ∙ c.to_text_with_digits-text.ensures.text in
    let number_fits : SFits w32 c.args.digits = c.ranges.digits in
    let fits : SFits w32 c.write_text.result = search rules in
    let all = c.write_text.ensures.after
    ∙ ap (λ text. written_text text buffer size) bytes
    ∙ both (fraction_digits_of c.args.digits) (date_time_of c.args.value.now) c.in-Some.digits
    (date_and_time c.in-Ok.value) (value_out_of_range, buffer, size)
    (λ digits value. written_text (date_time_text_with digits value) buffer size)
    (sym (simp to_z-of_z at c.in-Some.ensures.digits)) (sym c.in-Ok.ensures.answer) in
    simp to_z-of_z all
