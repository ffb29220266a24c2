use Rattle.std.proofs.Common.{rules, refl}
use Rattle.speedate_stream.proofs.SentLemmas.{OnlyWrites-front}
use Rattle.speedate_stream.proofs.run.end_line.Goals as goal

pub returns-in_err-send : goal.returns-in_err-send
returns-in_err-send g c =
    record { sent = OnlyWrites-front _ _ _ (search rules) c.in_err-send.ensures.sent refl }
