use Rattle.std.proofs.Common.{rules}
use Rattle.speedate.proofs.DurationTextLemmas.{printed_digits}
use Rattle.speedate.proofs.duration.text.push_up_to_four_digits.Goals as goal

pub push_up_to_two_digits-requires-else-number-lt100
    : goal.push_up_to_two_digits-requires-else-number-lt100
push_up_to_two_digits-requires-else-number-lt100 g c = search (rules, printed_digits)

pub push_str-requires : goal.push_str-requires
push_str-requires g c = search (rules, printed_digits)

pub returns-else-number-lt100 : goal.returns-else-number-lt100
returns-else-number-lt100 g c = search (rules, printed_digits)
