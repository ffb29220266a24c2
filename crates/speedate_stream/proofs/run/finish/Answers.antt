use Rattle.std.proofs.Common.{rules}
use Rattle.speedate_stream.proofs.SentLemmas.{OnlyWrites-fails, OnlyWrites-then, Writes-flushed}
use Rattle.speedate_stream.proofs.run.finish.Goals as goal

pub returns-in_err-send-clause-printed : goal.returns-in_err-send-clause-printed
returns-in_err-send-clause-printed g c =
    let both = OnlyWrites-then _ c.in_ok-print_ending.ensures.printed c.in_err-send.ensures.sent in
    (OnlyWrites-fails _ _ (search rules) both).writes

pub returns-clause-printed : goal.returns-clause-printed
returns-clause-printed g c =
    let both = OnlyWrites-then _ c.in_ok-print_ending.ensures.printed c.in_ok-send.ensures.sent in
    Writes-flushed _ both c.flush.ensures.bytes c.flush.ensures.failed
