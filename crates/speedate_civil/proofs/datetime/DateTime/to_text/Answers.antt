use Rattle.std.proofs.Common.{◌∙◌, ap, rules}
use Rattle.std.specs.Option.{option_map}
use Rattle.speedate_base.specs.Numbers.{number_answer}
use Rattle.speedate_civil.specs.DateTime.{date_and_time, date_time_answer, date_time_at}
use Rattle.speedate_civil.specs.DateTime.{date_time_or_timestamp, date_time_text}
use Rattle.speedate_civil.specs.DateTime.{number_instant}
use Rattle.speedate_base.specs.Requirement.{or_number, result_map}
use Rattle.speedate_base.proofs.TextLemmas.{text-alone, text-canonical}
use Rattle.speedate_civil.proofs.AfterTimeLemmas.{date_time_text-front-iff}
use Rattle.speedate_civil.proofs.DateTimeLemmas.{date_time_text-reads}
use Rattle.speedate_civil.proofs.ValueLemmas.{is_date_and_time}
use Rattle.speedate_civil.proofs.datetime.DateTime.to_text.Goals as goal

pub returns-clause-reads_back : goal.returns-clause-reads_back
returns-clause-reads_back c whole config =
    let value = c.args.self.now in
    let behavior = config.microseconds_precision_overflow_behavior in
    let bytes = text-alone _ _ _ c.new-text.ensures c.push_onto.ensures.text in
    ap (date_time_answer behavior) bytes
    ∙ date_time_text-reads behavior (date_and_time value) (is_date_and_time value) whole

pub returns-clause-reads_back_with_config : goal.returns-clause-reads_back_with_config
returns-clause-reads_back_with_config c whole config =
    let value = c.args.self.now in
    let unit = config.timestamp_unit in
    let behavior = config.time_config.microseconds_precision_overflow_behavior in
    let offset = config.time_config.unix_timestamp_offset in
    let bytes = text-alone _ _ _ c.new-text.ensures c.push_onto.ensures.text in
    ap (date_time_or_timestamp unit behavior offset) bytes
    ∙ ap (or_number (option_map (result_map (date_time_at offset))
    (number_instant unit behavior (date_time_text (date_and_time value))
    (number_answer (date_time_text (date_and_time value))))))
    (date_time_text-reads behavior (date_and_time value) (is_date_and_time value) whole)

pub returns-clause-reads_front : goal.returns-clause-reads_front
returns-clause-reads_front c whole config rest =
    let value = date_and_time c.args.self.now in
    let behavior = config.microseconds_precision_overflow_behavior in
    let bytes = text-alone _ _ _ c.new-text.ensures c.push_onto.ensures.text in
    rw (bytes) (date_time_text-front-iff behavior value rest (is_date_and_time c.args.self.now)
    whole)

pub returns-clause-canonical : goal.returns-clause-canonical
returns-clause-canonical c whole config =
    search (rules, text-alone, text-canonical, returns-clause-reads_back_with_config)
