use Rattle.std.proofs.Common.{arith, ap, ◌∙◌}
use Rattle.std.proofs.lemmas.Int.{ints}
use Rattle.speedate_base.specs.Timestamp.{instant_at}
use Rattle.speedate.specs.Duration.{duration_numbers}
use Rattle.speedate.proofs.DurationLemmas.{signed_amount-joined}
use Rattle.speedate.proofs.duration.Duration.end.Goals as goal

pub returns : goal.returns
returns c =
    record {
      instant = c.from_second_and_microseconds.ensures.instant
          ∙ ap instant_at (omega (
            arith,
            ints,
            signed_amount-joined
                (duration_numbers c.args.self.now),
          ));
    }
