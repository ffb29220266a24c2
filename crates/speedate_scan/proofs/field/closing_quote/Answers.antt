use Rattle.std.proofs.Common.{arith, rules, ◌+◌, ◌<◌, length}
use Rattle.speedate_scan.proofs.FieldLemmas.{quote_doubled, quote_here, quote_later}
use Rattle.speedate_scan.proofs.FieldLemmas.{quote_nowhere, quote_within}
use Rattle.speedate_scan.proofs.field.closing_quote.Goals as goal

pub loop-place-preserved-then-text-place-ne-QUOTE :
    goal.loop-place-preserved-then-text-place-ne-QUOTE
loop-place-preserved-then-text-place-ne-QUOTE c =
    let later = quote_later c.args.text.now c.loop-place.place (omega arith) (search rules) in
    record {
      after = omega (arith, c.loop-place.invariant.after);
      within = omega arith;
      same = omega (arith, later, c.loop-place.invariant.same);
    }

pub returns-then-byte_at-ne-QUOTE-clause-quote : goal.returns-then-byte_at-ne-QUOTE-clause-quote
returns-then-byte_at-ne-QUOTE-clause-quote c =
    let place = c.loop-place.place in
    let here = quote_here c.args.text.now place (omega arith) (search rules) (search rules) in
    omega (arith, here, c.loop-place.invariant.same)

pub loop-place-preserved : goal.loop-place-preserved
loop-place-preserved c =
    let place = c.loop-place.place in
    let within : place + 1 < length c.args.text.now =
    quote_within c.args.text.now (place + 1) (search rules) in
    let later = quote_doubled c.args.text.now place within (search rules) (search rules) in
    record {
      after = omega (arith, c.loop-place.invariant.after);
      within = omega (arith, within);
      same = omega (arith, later, c.loop-place.invariant.same);
    }

pub returns-clause-quote : goal.returns-clause-quote
returns-clause-quote c =
    let nowhere = quote_nowhere c.args.text.now c.loop-place.place (omega arith) in
    omega (arith, nowhere, c.loop-place.invariant.same)
