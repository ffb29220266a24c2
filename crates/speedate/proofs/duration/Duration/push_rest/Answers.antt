use Rattle.std.proofs.Common.{rules, arith}
use Rattle.std.proofs.lemmas.Grind.{common_steps}
use Rattle.speedate.proofs.DurationTextLemmas.{printed_lengths}
use Rattle.speedate.proofs.duration.Duration.push_rest.Goals as goal

pub push-requires : goal.push-requires
push-requires g c = search (rules, printed_lengths)

pub push_counted-requires : goal.push_counted-requires
push_counted-requires g c = search (rules, printed_lengths)

pub push_counted-requires-2 : goal.push_counted-requires-2
push_counted-requires-2 g c = search (rules, printed_lengths)

pub push_seconds-requires : goal.push_seconds-requires
push_seconds-requires g c = search (rules, printed_lengths)

pub returns-clause-text : goal.returns-clause-text
returns-clause-text g c = grind (arith, common_steps)

pub returns-clause-short : goal.returns-clause-short
returns-clause-short g c = search (rules, printed_lengths)
