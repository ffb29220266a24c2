use Rattle.std.proofs.Common.{rules}
use Rattle.speedate.proofs.FrontNumberLemmas.{IsFront-utc}
use Rattle.speedate.proofs.column.date_time.DateTimeReaderLineReader.front.Goals as goal

pub returns : goal.returns
returns c =
    let is = IsFront-utc c.args.self.now c.args.text.now _ c.in_ok-number.ensures.front
    (c.takes.ensures.takes c.if-not-takes.false) in
    search rules
