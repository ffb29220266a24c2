use Rattle.std.proofs.Common.{rules}
use Rattle.speedate.proofs.DurationTextLemmas.{printed_digits}
use Rattle.speedate.proofs.duration.text.push_number.Goals as goal

pub push_up_to_four_digits-requires-else-number-lt10000
    : goal.push_up_to_four_digits-requires-else-number-lt10000
push_up_to_four_digits-requires-else-number-lt10000 g c = search (rules, printed_digits)

pub push_str-requires : goal.push_str-requires
push_str-requires g c = search (rules, printed_digits)

pub push_str-requires-else-number-lt10000 : goal.push_str-requires-else-number-lt10000
push_str-requires-else-number-lt10000 g c = search (rules, printed_digits)

pub returns-else-number-lt10000 : goal.returns-else-number-lt10000
returns-else-number-lt10000 g c = search (rules, printed_digits)
