use Rattle.std.proofs.Common.{◌∙◌, add-zero, ap, sym, ℕ, Ok, Err}
use Rattle.std.proofs.lemmas.Result.{err_from_is_err_and}
use Rattle.speedate_base.specs.Requirement.{shifted}
use Rattle.speedate_civil.specs.Base.{ParseError}
use Rattle.speedate_civil.specs.ParserParts.{clock_after}
use Rattle.speedate_civil.proofs.ClockFrontLemmas.{minute-decided, minute-none, minute-read}
use Rattle.std.proofs.Common.{arith}
use Rattle.std.proofs.lemmas.Grind.{common_steps}
use Rattle.speedate_civil.proofs.time.pure.PureTime.minute_front_at.Goals as goal

pub returns-then-fits-lt2-clause-answer : goal.returns-then-fits-lt2-clause-answer
returns-then-fits-lt2-clause-answer g c =
    let start = c.args.start in
    let refusal = g.E.Refusal.refusal in
    let loaded = c.eight_bytes-front.ensures.bytes in
    let counted = c.fit_length-fits.ensures.count in
    let none = minute-none (shifted start refusal) c.args.behavior c.args.rest.now _ _ loaded in
    let begins = ap (refusal ParseError.InvalidCharMinute) (sym (add-zero start)) in
    ap Err (c.refuse_at.ensures.refusal ∙ begins) ∙ sym (none counted c.if-fits-lt2.true)

pub returns-in_err-after-clause-answer : goal.returns-in_err-after-clause-answer
returns-in_err-after-clause-answer g c =
    let rest = c.args.rest.now in
    let refuse = shifted c.args.start g.E.Refusal.refusal in
    let loaded = c.eight_bytes-front.ensures.bytes in
    let counted = c.fit_length-fits.ensures.count in
    let read = minute-read rest _ _ _ loaded counted c.if-fits-lt2.false in
    let minute = read c.digit_pairs.ensures.numbers in
    let is = minute-decided refuse c.args.behavior rest _ minute c.if-minute-gt59.false
    ∙ sym c.in_err-after.ensures.answer in
    let p = err_from_is_err_and c.from_residual.result c.from_residual.ensures.1 in
    rw (p.1, p.2) (sym is)

pub returns-clause-answer : goal.returns-clause-answer
returns-clause-answer g c =
    let rest = c.args.rest.now in
    let refuse = shifted c.args.start g.E.Refusal.refusal in
    let loaded = c.eight_bytes-front.ensures.bytes in
    let counted = c.fit_length-fits.ensures.count in
    let read = minute-read rest _ _ _ loaded counted c.if-fits-lt2.false in
    let minute = read c.digit_pairs.ensures.numbers in
    let is = minute-decided refuse c.args.behavior rest _ minute c.if-minute-gt59.false
    ∙ sym c.in_ok-after.ensures.answer in
    ap (λ (minute : ℕ). Ok (clock_after minute c.in_ok-after.after)) minute.is ∙ sym is

pub returns-then-minute-gt59-clause-answer : goal.returns-then-minute-gt59-clause-answer
returns-then-minute-gt59-clause-answer g c = grind (arith, common_steps)

pub after_minute-requires-clause-minute : goal.after_minute-requires-clause-minute
after_minute-requires-clause-minute g c = grind (arith, common_steps)
