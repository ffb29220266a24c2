use Rattle.std.proofs.Common.{◌∙◌, sym}
use Rattle.std.proofs.lemmas.Bool.{and_parts}
use Rattle.speedate_civil.proofs.FullClockLemmas.{full-clock}
use Rattle.speedate_civil.proofs.datetime.full_clock.has_full_clock.Goals as goal

pub returns : goal.returns
returns c = record {
  looks = λ both.
      let parts = and_parts c.are_between-front.result c.are_between-end.result both in
      full-clock c.args.bytes.now c.if-bytes-lt-BARE_LENGTH.false
      (sym c.are_between-front.ensures.between ∙ parts.0)
      (sym c.are_between-end.ensures.between ∙ parts.1);
}
