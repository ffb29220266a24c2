use Rattle.std.proofs.Common.{◌+◌, arith, rules}
use Rattle.speedate_scan.proofs.WordLemmas.{search_begins, search_ends, search_fails}
use Rattle.speedate_scan.proofs.WordLemmas.{search_goes_on, search_skips}
use Rattle.speedate_scan.proofs.claim.claim_after.Goals as goal

pub loop-place-init : goal.loop-place-init
loop-place-init c = search_begins c.args.wanted c.args.word.now c.args.text.now

pub returns-then-place-text-clause-end : goal.returns-then-place-text-clause-end
returns-then-place-text-clause-end c =
    let skipped = search_skips c.args.wanted c.args.word.now c.args.text.now c.loop-place.place
    c.passed-place.result c.loop-place.invariant c.passed-place.ensures.within
    (c.passed-place.ensures.passed c.args.wanted) in
    search_fails c.args.wanted c.args.word.now c.args.text.now
    (c.loop-place.place + c.passed-place.result) skipped (omega arith)

pub returns-then-begins_claim-clause-end : goal.returns-then-begins_claim-clause-end
returns-then-begins_claim-clause-end c =
    let skipped = search_skips c.args.wanted c.args.word.now c.args.text.now c.loop-place.place
    c.passed-place.result c.loop-place.invariant c.passed-place.ensures.within
    (c.passed-place.ensures.passed c.args.wanted) in
    search_ends c.args.wanted c.args.word.now c.args.text.now
    (c.loop-place.place + c.passed-place.result) skipped (omega (arith, skipped.within))
    (search rules)

pub loop-place-preserved : goal.loop-place-preserved
loop-place-preserved c =
    let skipped = search_skips c.args.wanted c.args.word.now c.args.text.now c.loop-place.place
    c.passed-place.result c.loop-place.invariant c.passed-place.ensures.within
    (c.passed-place.ensures.passed c.args.wanted) in
    search_goes_on c.args.wanted c.args.word.now c.args.text.now
    (c.loop-place.place + c.passed-place.result) skipped (omega (arith, skipped.within))
    (search rules)

pub returns-clause-end : goal.returns-clause-end
returns-clause-end c =
    search_fails c.args.wanted c.args.word.now c.args.text.now c.loop-place.place
    c.loop-place.invariant (omega arith)
