use Rattle.std.proofs.Common.{sym}
use Rattle.speedate_base.proofs.RefusalLemmas.{seen-read}
use Rattle.speedate_civil.proofs.NumberTextLemmas.{number_answer-date}
use Rattle.speedate_civil.proofs.datetime.DateTime.front.Goals as goal

pub returns-clause-no_number : goal.returns-clause-no_number
returns-clause-no_number g c =
    let bytes = c.args.bytes.now in
    number_answer-date bytes _
    (seen-read g.E.Refusal.refusal _ _ (sym c.in_ok-date.ensures.answer))
