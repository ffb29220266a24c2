use Rattle.std.proofs.Common.{◌++◌, ◌∙◌, ap}
use Rattle.speedate.specs.DateTime.{date_and_time}
use Rattle.speedate_civil.proofs.ValueLemmas.{is_date_and_time}
use Rattle.speedate_commands.specs.Nanosecond.{with_fraction}
use Rattle.speedate_commands.proofs.NanosecondLemmas.{pushed-order, with_digits, without_digits}
use Rattle.speedate_commands.proofs.nanosecond.push_date_time.Goals as goal

pub returns-then-count-eq0-clause-pushed : goal.returns-then-count-eq0-clause-pushed
returns-then-count-eq0-clause-pushed c =
    let bytes = c.as_bytes-bytes.ensures.value
    ∙ c.as_str.ensures.value
    ∙ c.to_text_with_digits-text.ensures.text in
    c.push_bytes.ensures.pushed
    ∙ ap (λ text. c.args.pending.now.items ++ text) (bytes
    ∙ without_digits c.args.count c.args.nanosecond (date_and_time c.args.value.now)
    c.if-count-eq0.true)

pub returns-then-count-eq0-clause-text_order : goal.returns-then-count-eq0-clause-text_order
returns-then-count-eq0-clause-text_order c other nanosecond same small less =
    let value = c.args.value.now in
    pushed-order (date_and_time value) (date_and_time other) (is_date_and_time value)
    (is_date_and_time other) same c.args.nanosecond nanosecond c.args.count small less
    c.requires.most c.args.pending.now.items _ (returns-then-count-eq0-clause-pushed c)

pub returns-else-count-eq0-clause-pushed : goal.returns-else-count-eq0-clause-pushed
returns-else-count-eq0-clause-pushed c =
    let count = c.args.count in
    let bytes = c.as_bytes-bytes.ensures.value
    ∙ c.as_str.ensures.value
    ∙ c.to_text_with_digits-text.ensures.text in
    c.push_with_fraction.ensures.pushed
    ∙ ap (λ text. c.args.pending.now.items ++ text)
    (ap (λ text. with_fraction text count c.args.nanosecond) bytes
    ∙ with_digits count c.args.nanosecond (date_and_time c.args.value.now)
    c.if-count-eq0.false)

pub returns-else-count-eq0-clause-text_order : goal.returns-else-count-eq0-clause-text_order
returns-else-count-eq0-clause-text_order c other nanosecond same small less =
    let value = c.args.value.now in
    pushed-order (date_and_time value) (date_and_time other) (is_date_and_time value)
    (is_date_and_time other) same c.args.nanosecond nanosecond c.args.count small less
    c.requires.most c.args.pending.now.items _ (returns-else-count-eq0-clause-pushed c)
