-- Columns from outside: what their configuration says, which number a line has, and what a call
-- leaves.
use Rattle.std.specs.Prelude.{◌≡◌, ◌≢◌, ℕ, ◌≤◌, ◌++◌, ℤ, pos, Bool, true, false, List, [], ◌∷◌, length, min, drop, slice_get, Option, Some, None, Result, if◌then◌else◌}
use Rattle.std.specs.Option.{option_and_then, option_map, unwrap_or}
use Rattle.speedate.specs.Base.{Behavior, CallKind, ParseError, TimestampUnit}
use Rattle.speedate.specs.Config.{Choices}
use Rattle.speedate.specs.DateTime.{DateAndTime, date_time_answer, date_time_or_timestamp}
use Rattle.speedate.specs.DateTime.{local_microsecond, utc_microsecond}
use Rattle.speedate.specs.Form.{size_or_place}
use Rattle.speedate.specs.Loose.{loose_answer}
use Rattle.speedate.specs.Strict.{strict_date_time_answer, strict_time_answer}
use Rattle.speedate.specs.Time.{TimeOfDay, microsecond_of_day, time_answer}
use Rattle.speedate.specs.declared.Refused.{Refused}
use Rattle.speedate.specs.Refused.{refused_place, without_place}
use Rattle.speedate.specs.Requirement.{result_and_then}
use Rattle.speedate.specs.Duration.{duration_answer}
use Rattle.speedate.specs.Column.{as_number, date_number, date_place, date_time_front_number}
use Rattle.speedate.specs.Column.{date_time_front_place, ended_part, front_number, front_of_line}
use Rattle.speedate.specs.Column.{number_of_duration, offset_as_number, text_column, with_offset}
use Rattle.speedate.specs.ColumnText.{column_text, least_of_64_bits}
use Rattle.speedate.specs.declared.column.date.DateReader.{DateReader}
use Rattle.speedate.specs.declared.column.front.DateTimeFront.{DateTimeFront}
use Rattle.speedate.specs.declared.column.front.DateTimeFrontReader.{DateTimeFrontReader}
use Rattle.speedate.specs.declared.LineConfig.{LineConfig}
use Rattle.speedate.specs.declared.LineError.{LineError}
use Rattle.speedate.specs.Lines.{unfinished_line, whole_lines}
use Rattle.speedate_c.specs.Code.{kind_number, line_error_code, success}
use Rattle.speedate_c.specs.Config.{choices_of, flags}
use Rattle.speedate_c.specs.declared.config.SpeedateConfig.{SpeedateConfig}
use Rattle.speedate_c.specs.Written.{no_part}
use Rattle.speedate_c.specs.declared.part.SpeedatePart.{SpeedatePart}
use Rattle.speedate_c.specs.declared.column.LineParser.{LineParser}
use Rattle.speedate_c.specs.declared.column.ColumnChoices.{ColumnChoices}
use Rattle.speedate_c.specs.declared.column.SpeedateColumnConfig.{SpeedateColumnConfig}
use Rattle.speedate_c.specs.declared.column.SpeedateProgress.{SpeedateProgress}

-- the parsers in the order of their numbers, the default first
abbrev pub parsers : List LineParser
parsers = LineParser.Text ∷ LineParser.OrTimestamp ∷ LineParser.Strict ∷ LineParser.Loose ∷ []

-- the flag for what the clocks of date-times show
abbrev pub clock_flag : ℕ
clock_flag = 16

-- what a configuration of columns from outside chooses, where each of its numbers has a value
abbrev pub column_choices_of : SpeedateColumnConfig → Option ColumnChoices
column_choices_of config =
    option_and_then (λ at_end.
    option_and_then (λ drops_returns.
    option_and_then (λ parser.
    option_and_then (λ assumes_utc.
    option_map (λ goes_on. record {
      lines = record { at_end = at_end; drops_returns = drops_returns };
      parser = parser;
      assumes_utc = assumes_utc;
      goes_on = goes_on;
    })
    (slice_get flags config.goes_on))
    (slice_get flags config.assumes_utc))
    (slice_get parsers config.parser))
    (slice_get flags config.drops_returns))
    (slice_get flags config.at_end)

-- the number of a line that is refused, where the column goes on after it
abbrev pub on_refusal : {N : Type 0} → Bool → N → Option N
on_refusal goes_on least = if goes_on then Some least else None

-- what a column reads a line as, or its error, the place for which it refuses a line, and the kind
-- of calls that parse a text as it does
pub record LineCall (N : Type 0) : Type 0 where
  pub answer : List ℕ → Result N LineError
  pub place : List ℕ → ℕ
  pub kind : CallKind

-- the date-time of a line, or the fault and its place
abbrev pub date_time_by_parser : LineParser → Choices → List ℕ → Result DateAndTime Refused
date_time_by_parser LineParser.Text chosen line = date_time_answer chosen.behavior line
date_time_by_parser LineParser.OrTimestamp chosen line =
    date_time_or_timestamp chosen.unit chosen.behavior chosen.offset line
date_time_by_parser LineParser.Strict chosen line = strict_date_time_answer chosen.behavior line
date_time_by_parser LineParser.Loose chosen line = loose_answer chosen.behavior line

-- the place of a line in a column of date-times: its end, if an offset is missing
abbrev pub date_time_place_by : Choices → LineParser → List ℕ → ℕ
date_time_place_by chosen parser line =
    unwrap_or (refused_place (date_time_by_parser parser chosen line)) (length line)

-- the kind of calls that parse date-times as a parser does
abbrev pub date_time_kind : LineParser → CallKind
date_time_kind LineParser.Text = CallKind.DateTime
date_time_kind LineParser.OrTimestamp = CallKind.DateTimeOrTimestamp
date_time_kind LineParser.Strict = CallKind.DateTimeStrict
date_time_kind LineParser.Loose = CallKind.DateTime

-- a column that reads date-times as numbers
abbrev pub date_time_call : (List ℕ → Result ℤ LineError) → Choices → LineParser → LineCall ℤ
date_time_call answer chosen parser = record {
  answer = answer;
  place = date_time_place_by chosen parser;
  kind = date_time_kind parser;
}

-- the number of a line in a column of date-times: the microseconds since 1970-01-01T00:00:00 in UTC
abbrev pub date_time_number_by : Choices → ColumnChoices → List ℕ → Result ℤ LineError
date_time_number_by chosen column line =
    as_number utc_microsecond
    (result_and_then (with_offset column.assumes_utc)
    (without_place (date_time_by_parser column.parser chosen line)))

-- the number of a line in a column of date-times as their clocks show them: the microseconds since
-- 1970-01-01T00:00:00 on the same clock, whatever the offset
abbrev pub clock_number_by : Choices → LineParser → List ℕ → Result ℤ LineError
clock_number_by chosen parser line =
    as_number local_microsecond (without_place (date_time_by_parser parser chosen line))

-- the number of a line in a column of the offsets of date-times: its seconds
abbrev pub date_time_offset_number_by : Choices → LineParser → List ℕ → Result ℤ LineError
date_time_offset_number_by chosen parser line =
    offset_as_number (λ value. value.time.offset)
    (without_place (date_time_by_parser parser chosen line))

-- a column of what is read at the front of lines: the microseconds since 1970-01-01T00:00:00 in
-- UTC, and how many bytes the date-time takes
abbrev pub front_call_of : Bool → (List ℕ → Result (DateAndTime × ℕ) Refused)
    → LineCall DateTimeFront
front_call_of assumes_utc read = record {
  answer = λ line. front_number assumes_utc (read line);
  place = λ line. size_or_place (read line);
  kind = CallKind.DateTime;
}

-- the same for date-times, where the parser is one of these
abbrev pub front_call_by : Behavior → Bool → LineParser → Option (LineCall DateTimeFront)
front_call_by behavior assumes_utc LineParser.Text =
    Some (front_call_of assumes_utc (front_of_line false behavior))
front_call_by behavior assumes_utc LineParser.Loose =
    Some (front_call_of assumes_utc (front_of_line true behavior))
front_call_by behavior assumes_utc LineParser.OrTimestamp = None
front_call_by behavior assumes_utc LineParser.Strict = None

-- for a reader
abbrev pub front_call : DateTimeFrontReader → LineCall DateTimeFront
front_call reader = record {
  answer = date_time_front_number reader;
  place = date_time_front_place reader;
  kind = CallKind.DateTime;
}

-- what a refused line has in such a column
abbrev pub no_front : DateTimeFront
no_front = record { microseconds = least_of_64_bits; size = 0 }

-- the time of a line, or the fault and its place, if the parser is one of times
abbrev pub time_by_parser : LineParser → Choices → Option (List ℕ → Result TimeOfDay Refused)
time_by_parser LineParser.Text chosen = Some (time_answer chosen.behavior)
time_by_parser LineParser.OrTimestamp chosen = None
time_by_parser LineParser.Strict chosen = Some (strict_time_answer chosen.behavior)
time_by_parser LineParser.Loose chosen = None

-- the kind of calls that parse times as a parser does
abbrev pub time_kind : LineParser → CallKind
time_kind LineParser.Text = CallKind.Time
time_kind LineParser.OrTimestamp = CallKind.Time
time_kind LineParser.Strict = CallKind.TimeStrict
time_kind LineParser.Loose = CallKind.Time

-- a column that reads times as numbers, where the parser is one of times; the place of a line is
-- its end, where an offset is missing
abbrev pub time_call : (Result TimeOfDay ParseError → Result ℤ LineError) → Choices → LineParser
    → Option (LineCall ℤ)
time_call number chosen parser =
    option_map (λ time. record {
      answer = λ line. number (without_place (time line));
      place = λ line. unwrap_or (refused_place (time line)) (length line);
      kind = time_kind parser;
    })
    (time_by_parser parser chosen)

-- the number of a time: the microseconds after midnight that its clock shows, whatever the offset
abbrev pub number_of_time : Result TimeOfDay ParseError → Result ℤ LineError
number_of_time time = as_number (λ time. pos (microsecond_of_day time)) time

-- the number of the offset of a time: its seconds
abbrev pub number_of_offset : Result TimeOfDay ParseError → Result ℤ LineError
number_of_offset time = offset_as_number (λ time. time.offset) time

-- the reader of a column of dates, if the parser is one of dates: each text of a date is one of RFC
-- 3339
abbrev pub date_reader : TimestampUnit → LineParser → Option DateReader
date_reader unit LineParser.Text = Some DateReader.Text
date_reader unit LineParser.OrTimestamp =
    Some (DateReader.OrTimestamp (record { timestamp_unit = unit }))
date_reader unit LineParser.Strict = Some DateReader.Text
date_reader unit LineParser.Loose = None

-- the kind of calls that parse dates as a parser does
abbrev pub date_kind : LineParser → CallKind
date_kind LineParser.Text = CallKind.Date
date_kind LineParser.OrTimestamp = CallKind.DateOrTimestamp
date_kind LineParser.Strict = CallKind.Date
date_kind LineParser.Loose = CallKind.Date

-- a column of dates: it reads the days since 1970-01-01
abbrev pub date_call : LineParser → DateReader → LineCall ℤ
date_call parser reader = record {
  answer = date_number reader;
  place = date_place reader;
  kind = date_kind parser;
}

-- the number of a line in a column of durations: its microseconds, with the sign
abbrev pub duration_number_by : Choices → List ℕ → Result ℤ LineError
duration_number_by chosen line =
    number_of_duration (without_place (duration_answer chosen.order chosen.behavior line))

-- the place of a line in a column of durations: its beginning, where the number is too large
abbrev pub duration_place_by : Choices → List ℕ → ℕ
duration_place_by chosen line =
    unwrap_or (refused_place (duration_answer chosen.order chosen.behavior line)) 0

-- a column of durations
abbrev pub duration_call : Choices → LineCall ℤ
duration_call chosen = record {
  answer = duration_number_by chosen;
  place = duration_place_by chosen;
  kind = CallKind.Duration;
}

-- what both configurations choose, where each of their numbers has a value, and the parser is one
-- of the column: how it is read, and what a line is read as
abbrev pub chosen_by : {N : Type 0} → (Choices → ColumnChoices → Option (LineCall N))
    → SpeedateConfig → SpeedateColumnConfig → Option (ColumnChoices × LineCall N)
chosen_by call config column =
    option_and_then (λ chosen.
    option_and_then (λ column.
    option_map (λ call. (column, call)) (call chosen column))
    (column_choices_of column))
    (choices_of config)

-- the same for a column of date-times
abbrev pub chosen_for_date_times : SpeedateConfig → SpeedateColumnConfig
    → Option (ColumnChoices × LineCall ℤ)
chosen_for_date_times =
    chosen_by (λ chosen column.
    Some (date_time_call (date_time_number_by chosen column) chosen column.parser))

-- for a column of date-times as their clocks show them
abbrev pub chosen_for_clocks : SpeedateConfig → SpeedateColumnConfig
    → Option (ColumnChoices × LineCall ℤ)
chosen_for_clocks =
    chosen_by (λ chosen column.
    Some (date_time_call (clock_number_by chosen column.parser) chosen column.parser))

-- for a column of the offsets of date-times
abbrev pub chosen_for_date_time_offsets : SpeedateConfig → SpeedateColumnConfig
    → Option (ColumnChoices × LineCall ℤ)
chosen_for_date_time_offsets =
    chosen_by (λ chosen column.
    Some (date_time_call (date_time_offset_number_by chosen column.parser) chosen column.parser))

-- for a column of date-times at the front of lines
abbrev pub chosen_for_fronts : SpeedateConfig → SpeedateColumnConfig
    → Option (ColumnChoices × LineCall DateTimeFront)
chosen_for_fronts =
    chosen_by (λ chosen column. front_call_by chosen.behavior column.assumes_utc column.parser)

-- for a column of dates
abbrev pub chosen_for_dates : SpeedateConfig → SpeedateColumnConfig
    → Option (ColumnChoices × LineCall ℤ)
chosen_for_dates =
    chosen_by (λ chosen column.
    option_map (date_call column.parser) (date_reader chosen.unit column.parser))

-- for a column of times
abbrev pub chosen_for_times : SpeedateConfig → SpeedateColumnConfig
    → Option (ColumnChoices × LineCall ℤ)
chosen_for_times = chosen_by (λ chosen column. time_call number_of_time chosen column.parser)

-- for a column of the offsets of times
abbrev pub chosen_for_time_offsets : SpeedateConfig → SpeedateColumnConfig
    → Option (ColumnChoices × LineCall ℤ)
chosen_for_time_offsets =
    chosen_by (λ chosen column. time_call number_of_offset chosen column.parser)

-- for a column of durations
abbrev pub chosen_for_durations : SpeedateConfig → SpeedateColumnConfig
    → Option (ColumnChoices × LineCall ℤ)
chosen_for_durations = chosen_by (λ chosen column. Some (duration_call chosen))

-- the code of the error that ends a column, if one does
abbrev pub ended_code : Option LineError → ℤ
ended_code None = success
ended_code (Some error) = line_error_code error

-- the part of the line that ends a column, from a parser of a kind: none if no line ends it
abbrev pub progress_part : CallKind → Option LineError → ℕ × ℕ → SpeedatePart
progress_part kind None part = no_part
progress_part kind (Some error) part =
    record { start = part.0; end = part.1; kind = kind_number kind }

-- the part of the first of the lines that are left, if it ends a column
abbrev pub left_part : {N : Type 0} → LineCall N → LineConfig → Option LineError → List (List ℕ)
    → SpeedatePart
left_part call config fault left =
    progress_part call.kind fault (ended_part call.place config fault left)

-- how far a column has come, by the numbers of its lines, and the code of the error that ends it,
-- with its part; after these bytes stand the lines that have no number yet and, where the text may
-- go on, its unfinished line
pub record IsProgress {N : Type 0} (config : LineConfig) (text : List ℕ) (entries : List N)
    (code : ℤ) (ended : SpeedatePart) (progress : SpeedateProgress) : Type 0 where
  pub lines : progress.lines ≡ length entries
  pub error : progress.error ≡ code
  pub part : progress.part ≡ ended
  pub within : progress.bytes ≤ length text
  pub rest : whole_lines config.at_end (drop progress.bytes text)
      ≡ drop progress.lines (whole_lines config.at_end text)
  pub unfinished : config.at_end ≡ false
      → unfinished_line (drop progress.bytes text) ≡ unfinished_line text

-- what a call without errors leaves: the numbers of the first lines, of as many as there is room
-- for, before what stood after them, and how far the column has come
pub record IsNumberColumn {N : Type 0} (call : LineCall N) (config : LineConfig)
    (refused : Option N) (text : List ℕ) (before after : List N) (progress : SpeedateProgress)
    : Type 0 where
  pub numbers : after
      ≡ (text_column call.answer config refused (length before) text).numbers
      ++ drop progress.lines before
  pub reached : IsProgress config text
      (text_column call.answer config refused (length before) text).numbers
      (ended_code (text_column call.answer config refused (length before) text).fault)
      (left_part call config
      (text_column call.answer config refused (length before) text).fault
      (drop progress.lines (whole_lines config.at_end text))) progress

-- what a call with errors leaves, which no line ends: as many lines are read as there is room
-- for in both
pub record IsColumnWithErrors {N : Type 0} (answer : List ℕ → Result N LineError)
    (config : LineConfig) (least : N) (text : List ℕ) (before after : List N)
    (errors_before errors_after : List ℕ) (progress : SpeedateProgress) : Type 0 where
  pub numbers : after
      ≡ (text_column answer config (Some least) (min (length before) (length errors_before))
      text).numbers ++ drop progress.lines before
  pub errors : errors_after
      ≡ (text_column answer config (Some least) (min (length before) (length errors_before))
      text).errors ++ drop progress.lines errors_before
  pub reached : IsProgress config text
      (text_column answer config (Some least) (min (length before) (length errors_before))
      text).numbers success no_part progress

-- what a call leaves: it writes errors too where there is a place for one
pub record IsColumn {N : Type 0} (call : LineCall N) (column : ColumnChoices) (least : N)
    (text : List ℕ) (before after : List N) (errors_before errors_after : List ℕ)
    (progress : SpeedateProgress) : Type 0 where
  pub numbers : length errors_before ≡ 0 → IsNumberColumn call column.lines
      (on_refusal column.goes_on least) text before after progress
  pub errors : length errors_before ≢ 0 → IsColumnWithErrors call.answer column.lines least text
      before after errors_before errors_after progress

-- written of numbers that are printed: their text over the front of the buffer, and how far it has
-- come
abbrev pub written_lines : {N : Type 0} → (N → Result (List ℕ) LineError) → List N → List ℕ
    → ℤ × List ℕ × SpeedateProgress
written_lines line numbers before =
    let printed = column_text line (length before) numbers in
    let size = length printed.text in (
      success,
      printed.text ++ drop size before,
      record {
        lines = printed.lines;
        bytes = size;
        error = ended_code printed.fault;
        part = no_part;
      },
    )
