-- What the front of a text tells of the number of a line.
use Rattle.std.proofs.Common.{rules, ◌≡◌, ◌∙◌, ap, refl, option_map, ℤ, ℕ, ◌<◌, List, [], take, Result, Ok, Err}
use Rattle.std.specs.Result.{result_and}
use Rattle.speedate_civil.specs.Base.{Behavior, ParseError}
use Rattle.speedate_base.specs.Ascii.{HasNoControl}
use Rattle.speedate_base.specs.Numbers.{number_answer}
use Rattle.speedate_base.specs.Requirement.{fault_alone, first_fault_or, or_number}
use Rattle.speedate_base.specs.Requirement.{result_and_then, result_map}
use Rattle.speedate_base.specs.Refused.{first_refused_or, without_place}
use Rattle.speedate_base.proofs.RefusalLemmas.{first_refusal_or-chain, refusal-all, refusal-ok}
use Rattle.speedate_base.proofs.RefusalLemmas.{seen-read, seen-table, seen_number}
use Rattle.speedate_civil.proofs.LooseLemmas.{text_loosens}
use Rattle.speedate_civil.specs.Calendar.{Ymd, days_between}
use Rattle.speedate_civil.specs.Date.{date_answer}
use Rattle.speedate_civil.specs.DateTime.{DateAndTime, IsUtcFront, date_time_answer}
use Rattle.speedate_civil.specs.DateTime.{date_time_at, number_instant}
use Rattle.speedate_civil.specs.Strict.{strict_date_time, strict_date_time_answer}
use Rattle.speedate.specs.declared.column.date.DateReader.{DateReader}
use Rattle.speedate.specs.declared.column.date_time.DateTimeParser.{DateTimeParser}
use Rattle.speedate.specs.declared.column.date_time.DateTimeReader.{DateTimeReader}
use Rattle.speedate.specs.Column.{HasNoEnd, IsFront, date_number, date_time_number}
use Rattle.speedate.specs.Column.{date_time_of_line, epoch, taken_answer, text_behavior}
use Rattle.speedate.proofs.DurationAnswerLemmas.{then-seen}
use Rattle.speedate_base.proofs.LineLemmas.{IsOneLine-printed, no_return-printed}

-- nothing is read of no bytes
some-read : {A E : Type 0} (answer : List ℕ → Result A E) (text : List ℕ) (value : A)
    (size : ℕ) (fault : E) → answer [] ≡ Err fault → answer (take size text) ≡ Ok value
    → 0 < size
some-read answer text value size fault empty read = search rules

-- so bytes that are read, and are no control characters, hold no line's end
pub HasNoEnd-read : {A E : Type 0} (answer : List ℕ → Result A E) (text : List ℕ) (value : A)
    (size : ℕ) (fault : E)
    → answer [] ≡ Err fault → answer (take size text) ≡ Ok value
    → HasNoControl size text → HasNoEnd text size
HasNoEnd-read answer text value size fault empty read printed =
    search (rules, some-read, IsOneLine-printed, no_return-printed)

-- Dates.

-- a date that is read is counted, whether or not timestamps are read
pub date_number-of_date : (reader : DateReader) (line : List ℕ) (date : Ymd)
    → date_answer line ≡ Ok date → date_number reader line ≡ Ok (days_between epoch date)
date_number-of_date reader line date read = search rules

-- Date-times.

-- the faults of the strict answer
pub strict_faults : (behavior : Behavior) (line : List ℕ)
    → without_place (strict_date_time_answer behavior line)
    ≡ result_and_then (λ found. first_fault_or (strict_date_time line) (Ok found))
    (without_place (date_time_answer behavior line))
strict_faults behavior line =
    let table = strict_date_time line in
    then-seen fault_alone (λ found. first_refused_or table (Ok found)) _
    (date_time_answer behavior line)
    (λ found. seen-table fault_alone table (Ok found))

-- a date-time that is read is that of the line, if the parser takes it
pub date_time_of_line-read : (parser : DateTimeParser) (line : List ℕ) (value : DateAndTime)
    → without_place (date_time_answer (text_behavior parser) line) ≡ Ok value
    → taken_answer parser line ≡ Ok tt
    → without_place (date_time_of_line parser line) ≡ Ok value
date_time_of_line-read (DateTimeParser.Text config) line value read taken = read
date_time_of_line-read (DateTimeParser.OrTimestamp config) line value read taken =
    let time = config.time_config in
    let behavior = time.microseconds_precision_overflow_behavior in
    let offset = time.unix_timestamp_offset in
    let unit = config.timestamp_unit in
    let instant = number_instant unit behavior line (number_answer line) in
    let number = option_map (result_map (date_time_at offset)) instant in
    seen_number fault_alone number (date_time_answer behavior line)
    ∙ ap (or_number (option_map without_place number)) read
date_time_of_line-read (DateTimeParser.Strict behavior) line value read taken =
    let table = strict_date_time line in
    let rows = (refusal-ok fault_alone table (Ok tt) tt taken).0 in
    strict_faults behavior line
    ∙ ap (result_and_then (λ found. first_fault_or table (Ok found))) read
    ∙ refusal-all fault_alone table (Ok value) rows
date_time_of_line-read (DateTimeParser.Loose behavior) line value read taken =
    ap without_place (text_loosens behavior line value
    (seen-read fault_alone (date_time_answer behavior line) value read))

-- if the parser does not take it, the line is refused for that
pub date_time_of_line-untaken : (parser : DateTimeParser) (line : List ℕ) (value : DateAndTime)
    (fault : ParseError) → without_place (date_time_answer (text_behavior parser) line) ≡ Ok value
    → taken_answer parser line ≡ Err fault
    → without_place (date_time_of_line parser line) ≡ Err fault
date_time_of_line-untaken (DateTimeParser.Text config) line value fault read untaken = absurd (cc)
date_time_of_line-untaken (DateTimeParser.OrTimestamp config) line value fault read untaken =
    absurd (cc)
date_time_of_line-untaken (DateTimeParser.Strict behavior) line value fault read untaken =
    let table = strict_date_time line in
    strict_faults behavior line
    ∙ ap (result_and_then (λ found. first_fault_or table (Ok found))) read
    ∙ first_refusal_or-chain fault_alone table tt (Ok value)
    ∙ ap (λ met. result_and met (Ok value)) untaken
date_time_of_line-untaken (DateTimeParser.Loose behavior) line value fault read untaken =
    absurd (cc)

-- it is counted, if it has an offset or needs none
pub IsFront-utc : (reader : DateTimeReader) (text : List ℕ) (front : ℤ × ℕ)
    → IsUtcFront reader.assumes_utc text front
    → taken_answer reader.parser (take front.1 text) ≡ Ok tt
    → IsFront (date_time_number reader) text front
IsFront-utc reader text front found taken =
    let line : List ℕ = take front.1 text in
    let value = found.value in
    let behavior = Behavior.Error in
    record {
      within = found.within;
      answered = rw (
        date_time_of_line-read reader.parser line value
            (ap without_place (found.read (text_behavior reader.parser))) taken,
        found.offset,
      ) (ap Ok found.number);
      no_end = HasNoEnd-read (date_time_answer behavior) text value front.1 _ refl
          (found.read behavior) found.no_control;
    }
