use Rattle.std.proofs.Common.{◌≡◌, None}
use Rattle.speedate_stream.proofs.SentLemmas.{AppendsBeginning-left, AppendsBeginning-more}
use Rattle.speedate_sort.proofs.SourceLemmas.{merges-all, merges-halfway, merges-sent}
use Rattle.speedate_sort.proofs.merge.merge.Goals as goal

pub returns-in_err-send-clause-beginning : goal.returns-in_err-send-clause-beginning
returns-in_err-send-clause-beginning g c = λ known.
    let merges = c.in_ok-halted.ensures.merged known in
    rw c.new-pending.ensures.empty at
    (AppendsBeginning-left merges.sent
    (AppendsBeginning-more merges.left c.in_err-send.ensures.sent.writes.beginning))

pub returns-in_err-flush-clause-beginning : goal.returns-in_err-flush-clause-beginning
returns-in_err-flush-clause-beginning g c = λ known.
    let merges = c.in_ok-halted.ensures.merged known in
    record {
      left = merges.left;
      sent = merges-sent c.new-pending.ensures.empty merges c.in_ok-send.ensures.sent.writes.sent
          c.in_err-flush.ensures.bytes;
    }

pub returns-clause-merged : goal.returns-clause-merged
returns-clause-merged g c = λ is known.
    let ended : c.in_ok-halted.halted ≡ None = cc in
    merges-all (g.W.Write.contents c.flush.new.self.inner) ended c.new-pending.ensures.empty
    (c.in_ok-halted.ensures.merged known)
    c.in_ok-send.ensures.sent.writes.sent c.in_ok-flush.ensures.bytes

pub returns-clause-beginning : goal.returns-clause-beginning
returns-clause-beginning g c = λ known.
    let merges = c.in_ok-halted.ensures.merged known in
    record {
      left = merges.left;
      sent = merges-sent c.new-pending.ensures.empty merges c.in_ok-send.ensures.sent.writes.sent
          c.in_ok-flush.ensures.bytes;
    }

pub returns-clause-halfway : goal.returns-clause-halfway
returns-clause-halfway g c =
    merges-halfway (g.W.Write.contents c.flush.new.self.inner) _ c.in_ok-halted.halted
    c.new-pending.ensures.empty c.in_ok-halted.ensures.merged
    c.in_ok-send.ensures.sent.writes.sent c.in_ok-flush.ensures.bytes
