use Rattle.std.proofs.Common.{◌∙◌, ap, nat_cmp}
use Rattle.std.specs.Cmp.Lexicographic.{slice_cmp}
use Rattle.std.specs.Option.{option_map}
use Rattle.speedate_base.specs.Numbers.{number_answer}
use Rattle.speedate_civil.specs.DateTime.{date_and_time, date_time_answer, date_time_at}
use Rattle.speedate_civil.specs.DateTime.{date_time_or_timestamp, date_time_text_with}
use Rattle.speedate_civil.specs.DateTime.{number_instant}
use Rattle.speedate_base.specs.Requirement.{or_number, result_map}
use Rattle.speedate_base.proofs.TextLemmas.{text-alone}
use Rattle.speedate_civil.proofs.DateTimeLemmas.{date_time_text_with-reads}
use Rattle.speedate_civil.proofs.InstantOrderLemmas.{date_time_text_with-order}
use Rattle.speedate_civil.proofs.ValueLemmas.{is_date_and_time}
use Rattle.speedate_civil.proofs.datetime.DateTime.to_text_with_digits.Goals as goal

pub returns-clause-reads_back : goal.returns-clause-reads_back
returns-clause-reads_back c whole config =
    let value = c.args.self.now in
    let behavior = config.microseconds_precision_overflow_behavior in
    let bytes = text-alone _ _ _ c.new-text.ensures c.push_onto_with_digits.ensures.text in
    ap (date_time_answer behavior) bytes
    ∙ date_time_text_with-reads behavior c.args.digits (date_and_time value)
    (is_date_and_time value) whole

pub returns-clause-reads_back_with_config : goal.returns-clause-reads_back_with_config
returns-clause-reads_back_with_config c whole config =
    let value = c.args.self.now in
    let unit = config.timestamp_unit in
    let behavior = config.time_config.microseconds_precision_overflow_behavior in
    let offset = config.time_config.unix_timestamp_offset in
    let printed = date_time_text_with c.args.digits (date_and_time value) in
    let bytes = text-alone _ _ _ c.new-text.ensures c.push_onto_with_digits.ensures.text in
    ap (date_time_or_timestamp unit behavior offset) bytes
    ∙ ap (or_number (option_map (result_map (date_time_at offset))
    (number_instant unit behavior printed (number_answer printed))))
    (date_time_text_with-reads behavior c.args.digits (date_and_time value)
    (is_date_and_time value) whole)

pub returns-clause-text_order : goal.returns-clause-text_order
returns-clause-text_order c other same =
    let digits = c.args.digits in
    let first = date_and_time c.args.self.now in
    let second = date_and_time other in
    let bytes = text-alone _ _ _ c.new-text.ensures c.push_onto_with_digits.ensures.text in
    ap (λ text. slice_cmp nat_cmp text (date_time_text_with digits second)) bytes
    ∙ date_time_text_with-order digits first second (is_date_and_time c.args.self.now)
    (is_date_and_time other) same
