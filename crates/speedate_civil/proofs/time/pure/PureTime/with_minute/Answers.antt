use Rattle.std.proofs.Common.{◌∙◌, ap, sym, ℕ, get_or, Ok}
use Rattle.std.proofs.lemmas.Result.{err_from_is_err_and}
use Rattle.speedate_base.specs.Requirement.{result_map}
use Rattle.speedate_civil.specs.ParserParts.{clock_after}
use Rattle.speedate_civil.specs.Time.{at_hour}
use Rattle.speedate_civil.proofs.ClockFrontLemmas.{front-read, decided}
use Rattle.std.proofs.Common.{arith}
use Rattle.std.proofs.lemmas.Grind.{common_steps}
use Rattle.speedate_civil.proofs.time.pure.PureTime.with_minute.Goals as goal

pub returns-in_err-after-clause-answer : goal.returns-in_err-after-clause-answer
returns-in_err-after-clause-answer g c =
    let text = c.args.text.now in
    let read = front-read text _ _ _ c.requires.front c.requires.looks c.requires.minute in
    let front = read c.digit_pairs.ensures.numbers in
    let hour = get_or c.digit_pairs.result 0 0 in
    let rows = decided g.E.Refusal.refusal c.args.start c.args.behavior text _ front in
    let decides = rows c.requires.long c.if-hour-gt23.false c.if-minute-gt59.false in
    let is = decides ∙ ap (result_map (at_hour hour)) (sym c.in_err-after.ensures.answer) in
    let p = err_from_is_err_and c.from_residual.result c.from_residual.ensures.1 in
    rw (p.1, p.2) (sym is)

pub returns-clause-answer : goal.returns-clause-answer
returns-clause-answer g c =
    let text = c.args.text.now in
    let read = front-read text _ _ _ c.requires.front c.requires.looks c.requires.minute in
    let front = read c.digit_pairs.ensures.numbers in
    let hour = get_or c.digit_pairs.result 0 0 in
    let rows = decided g.E.Refusal.refusal c.args.start c.args.behavior text _ front in
    let decides = rows c.requires.long c.if-hour-gt23.false c.if-minute-gt59.false in
    let is = decides ∙ ap (result_map (at_hour hour)) (sym c.in_ok-after.ensures.answer) in
    let after = c.in_ok-after.after in
    ap (λ (minute : ℕ). Ok (at_hour hour (clock_after minute after))) front.minute_is ∙ sym is

pub returns-then-hour-gt23-clause-answer : goal.returns-then-hour-gt23-clause-answer
returns-then-hour-gt23-clause-answer g c = grind (arith, common_steps)

pub returns-then-minute-gt59-clause-answer : goal.returns-then-minute-gt59-clause-answer
returns-then-minute-gt59-clause-answer g c = grind (arith, common_steps)
