use Rattle.std.proofs.Common.{rules, ◌∙◌, ap, sym, SFits, w32, arith}
use Rattle.std.proofs.lemmas.Int.{to_z-of_z}
use Rattle.std.proofs.lemmas.List.{take_rest}
use Rattle.speedate_civil.specs.Date.{ymd}
use Rattle.speedate_civil.specs.DateTime.{utc_microsecond}
use Rattle.speedate_civil.specs.ParserParts.{IsFullFront}
use Rattle.speedate_civil.specs.Time.{TimeOfDay, clock_parts}
use Rattle.speedate_civil.proofs.FullClockLemmas.{utc-front}
use Rattle.speedate_civil.proofs.datetime.full_clock.utc_front.Goals as goal

pub returns : goal.returns
returns c =
    let date = ymd c.in_ok-date.date in
    let clock = clock_parts c.in_ok-clock.clock in
    let bytes = c.args.bytes.now in
    let looks = c.has_full_clock.ensures.looks c.if-not-has_full_clock.false in
    let full : IsFullFront c.args.assumes_utc bytes date clock
    (c.in_ok-offset.offset, c.in_ok-offset.size) = record {
      dated = c.in_ok-date.ensures.date;
      parted = sym c.has_separator.ensures.value ∙ c.if-not-has_separator.false;
      timed = rw (take_rest bytes 11) at c.in_ok-clock.ensures.clock;
      found = rw (take_rest bytes 11) at c.in_ok-offset.ensures.offset;
      within = omega (
        arith,
        c.if-bytes-lt-FULL_LENGTH.false,
        c.in_ok-clock.ensures.short,
        c.in_ok-offset.ensures.short,
      );
    } in
    let fits : SFits w32 c.in_ok-offset.offset = search rules in
    let time = rw (to_z-of_z w32 c.in_ok-offset.offset fits) at c.at_offset-time.ensures.time in
    let number = c.timestamp_tz_us-number.ensures.microsecond
    ∙ ap (λ (time : TimeOfDay). utc_microsecond (record { date = date; time = time })) time in
    let is = utc-front c.args.assumes_utc bytes date clock _ _ full number in
    search rules
