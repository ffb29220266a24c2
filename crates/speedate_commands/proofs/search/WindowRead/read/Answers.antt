use Rattle.std.proofs.Common.{arith, length, drop}
use Rattle.std.proofs.lemmas.Grind.{elements}
use Rattle.speedate_commands.proofs.SearchLemmas.{window-read}
use Rattle.speedate_commands.proofs.search.WindowRead.read.Goals as goal

pub returns-clause-bytes : goal.returns-clause-bytes
returns-clause-bytes g c =
    window-read (g.S.ReadAt.text c.args.self.now.source.now) c.args.self.now.at
    c.args.self.now.end c.in_ok-count.count (length c.args.buffer.now) c.read_at.new.buffer
    (drop c.min-room.result c.args.buffer.now) c.in_ok-count.ensures.bytes
    (grind (arith, elements)) (grind (arith, elements)) (grind (arith, elements))
