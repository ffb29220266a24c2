use Rattle.std.proofs.Common.{rules, arith}
use Rattle.std.proofs.lemmas.List.Sums.{prefix_len-le-length}
use Rattle.std.specs.Char.{is_ascii_digit}
use Rattle.speedate.proofs.duration.clock.hours_refusal.Goals as goal

pub overflow_add-start : goal.overflow_add-start
overflow_add-start g c = search (rules, prefix_len-le-length)

pub returns-in-None-clause-placed : goal.returns-in-None-clause-placed
returns-in-None-clause-placed g c =
    c.refuse_at.ensures.within _
    (omega (arith, prefix_len-le-length is_ascii_digit c.args.bytes.now, c.requires.end))
