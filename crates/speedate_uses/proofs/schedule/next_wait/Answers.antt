use Rattle.std.proofs.Common.{rules, ◌≡◌, ◌*◌, ◌<◌, pos, unsigned_abs}
use Rattle.speedate.specs.Duration.{amount_answer, ◌gives◌}
use Rattle.speedate_uses.specs.Schedule.{next_count}
use Rattle.speedate_uses.proofs.ScheduleLemmas.{wait-small, amount-fits}
use Rattle.speedate_uses.proofs.schedule.next_wait.Goals as goal

pub unwrap-requires : goal.unwrap-requires
unwrap-requires c =
    let gone = c.signed_total_microseconds.result in
    let every = c.signed_total_microseconds-2.result in
    let wait = c.next_multiple-wait.result in
    let few : unsigned_abs gone < 43200000000000000000 = search rules in
    let multiple : wait ≡ pos (next_count (unsigned_abs every) gone * unsigned_abs every) =
    search rules in
    let answer : c.from_signed_microseconds.result gives amount_answer wait = search rules in
    let short : unsigned_abs wait < 86400000000000000000 =
    rw multiple (wait-small (unsigned_abs every)
    gone c.signed_total_microseconds-2.ensures.small few) in
    amount-fits c.from_signed_microseconds.result wait short answer
