use Rattle.std.proofs.Common.{◌≤◌, arith}
use Rattle.speedate_scan.proofs.WordLemmas.{lower_bit, search_passes}
use Rattle.speedate_scan.proofs.claim.passed.Goals as goal

pub returns-clause-passed : goal.returns-clause-passed
returns-clause-passed c wanted =
    let short : c.min.result ≤ 16 = omega (arith, c.min.ensures) in
    search_passes wanted c.args.word.now c.args.text.now c.min.result (omega (arith, short))
    (λ k less. c.begins_at.ensures.elsewhere k (omega (arith, short))
    (lower_bit c.begins_at.result k (omega arith) (omega (arith, c.min.ensures))))
