use Rattle.std.proofs.Common.{rules}
use Rattle.speedate.proofs.DurationTextLemmas.{printed_digits}
use Rattle.speedate.proofs.duration.text.push_up_to_two_digits.Goals as goal

pub push-requires : goal.push-requires
push-requires g c = search (rules, printed_digits)

pub push_str-requires : goal.push_str-requires
push_str-requires g c = search (rules, printed_digits)

pub returns-then-number-lt10 : goal.returns-then-number-lt10
returns-then-number-lt10 g c = search (rules, printed_digits)

pub returns-else-number-lt10 : goal.returns-else-number-lt10
returns-else-number-lt10 g c = search (rules, printed_digits)
