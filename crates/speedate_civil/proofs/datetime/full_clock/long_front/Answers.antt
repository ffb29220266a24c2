use Rattle.std.proofs.lemmas.Bool.Decides.{nat_tests}
use Rattle.std.proofs.Common.{rules, ◌∙◌, sym, true, SFits, w32, arith}
use Rattle.std.proofs.lemmas.Int.{to_z-of_z}
use Rattle.std.proofs.lemmas.List.{take_rest}
use Rattle.speedate_civil.specs.Date.{ymd}
use Rattle.speedate_civil.specs.ParserParts.{IsFullFront}
use Rattle.speedate_civil.specs.Time.{clock_parts}
use Rattle.speedate_civil.proofs.FullClockLemmas.{full-front}
use Rattle.speedate_civil.proofs.datetime.full_clock.long_front.Goals as goal

pub returns-clause-front : goal.returns-clause-front
returns-clause-front c behavior =
    let bytes = c.args.bytes.now in
    let full : IsFullFront true bytes (ymd c.in_ok-date.date) (clock_parts c.in_ok-clock.clock)
    (c.in_ok-offset.offset, c.in_ok-offset.size) = record {
      dated = c.in_ok-date.ensures.date;
      parted = sym c.has_separator.ensures.value ∙ c.if-not-has_separator.false;
      timed = rw (take_rest bytes 11) at c.in_ok-clock.ensures.clock;
      found = rw (take_rest bytes 11) at c.in_ok-offset.ensures.offset;
      within = omega (
        arith,
        c.requires.long,
        c.in_ok-clock.ensures.short,
        c.in_ok-offset.ensures.short,
      );
    } in
    let fits : SFits w32 c.in_ok-offset.offset = search rules in
    grind (arith, nat_tests, to_z-of_z, full-front)
