use Rattle.std.proofs.Common.{rules, arith}
use Rattle.std.proofs.lemmas.Grind.{common_steps}
use Rattle.speedate.proofs.DurationTextLemmas.{printed_lengths}
use Rattle.speedate.proofs.duration.text.push_seconds.Goals as goal

pub push_up_to_two_digits-requires : goal.push_up_to_two_digits-requires
push_up_to_two_digits-requires g c = search (rules, printed_lengths)

pub push_fraction-requires : goal.push_fraction-requires
push_fraction-requires g c = search (rules, printed_lengths)

pub push-requires : goal.push-requires
push-requires g c = search (rules, printed_lengths)

pub returns-then-second-ne0-clause-text : goal.returns-then-second-ne0-clause-text
returns-then-second-ne0-clause-text g c = grind (arith, common_steps)

pub returns-then-second-ne0-clause-short : goal.returns-then-second-ne0-clause-short
returns-then-second-ne0-clause-short g c = search (rules, printed_lengths)
