use Rattle.std.proofs.Common.{rules, refl}
use Rattle.speedate_stream.proofs.SentLemmas.{OnlyWrites-front, OnlyWrites-next}
use Rattle.speedate_stream.proofs.run.pass.Goals as goal

pub returns-in_err-send : goal.returns-in_err-send
returns-in_err-send g c =
    record { sent = OnlyWrites-front _ _ _ (search rules) c.in_err-send.ensures.sent refl }

pub returns-then-remaining_capacity-bytes : goal.returns-then-remaining_capacity-bytes
returns-then-remaining_capacity-bytes g c = record {
  sent = rw (c.in_ok-send.ensures.empty)
      (OnlyWrites-next c.args.bytes.now _ c.in_ok-send.ensures.sent c.write_all.ensures.sent refl);
}
