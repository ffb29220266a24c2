use Rattle.std.proofs.Common.{◌≡◌, ◌∙◌, ap, ℕ, take, arith, min, length}
use Rattle.std.proofs.lemmas.List.{take_min}
use Rattle.speedate_stream.proofs.run.head.Goals as goal

pub returns-clause-head : goal.returns-clause-head
returns-clause-head c =
    let size : c.min.result ≡ min 4097 (length c.args.line.now) = omega arith in
    ap (λ (n : ℕ). take n c.args.line.now) size ∙ take_min 4097 c.args.line.now
