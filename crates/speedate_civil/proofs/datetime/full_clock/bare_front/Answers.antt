use Rattle.std.proofs.lemmas.Bool.Decides.{nat_tests}
use Rattle.std.proofs.Common.{true, arith, length-drop}
use Rattle.std.proofs.lemmas.Int.{to_z-of_z}
use Rattle.std.proofs.lemmas.List.{take_rest}
use Rattle.speedate_civil.specs.Date.{ymd}
use Rattle.speedate_civil.specs.ParserParts.{IsFullFront}
use Rattle.speedate_civil.specs.Time.{clock_parts}
use Rattle.speedate_civil.proofs.FullClockLemmas.{full-front}
use Rattle.speedate_civil.proofs.datetime.full_clock.bare_front.Goals as goal

pub returns-clause-front : goal.returns-clause-front
returns-clause-front c behavior =
    let bytes = c.args.bytes.now in
    let full : IsFullFront true bytes (ymd c.in_ok-date.date) (clock_parts c.in_ok-clock.clock)
    (c.in_ok-offset.offset, c.in_ok-offset.size) = record {
      dated = c.in_ok-date.ensures.date;
      parted = c.requires.parted;
      timed = rw (take_rest bytes 11) at c.in_ok-clock.ensures.clock;
      found = rw (take_rest bytes 11) at c.in_ok-offset.ensures.offset;
      within = omega (
        arith,
        c.requires.looks.long,
        c.in_ok-offset.ensures.within,
        length-drop 11 bytes,
      );
    } in
    grind (arith, nat_tests, to_z-of_z, full-front)
