use Rattle.std.proofs.Common.{rules, ℕ, List, ◌++◌, ◌∙◌, ◌≢◌, ap, sym, subst, length, SFits, of_z, w64}
use Rattle.std.proofs.lemmas.Int.{to_z-of_z}
use Rattle.speedate_base.specs.Ascii.{HasNoControl}
use Rattle.speedate.specs.Duration.{duration_numbers, duration_text}
use Rattle.speedate.specs.DurationNumbers.{IsDuration}
use Rattle.speedate.specs.ColumnText.{least_of_64_bits, number_or}
use Rattle.speedate.proofs.DurationLemmas.{is_duration}
use Rattle.speedate.proofs.PrintedLineLemmas.{duration-reads, duration_text-no_control}
use Rattle.speedate.proofs.PrintedLineLemmas.{least-is, no_duration-reads}
use Rattle.speedate.proofs.column.duration.DurationPrinterLinePrinter.push_line.Goals as goal

pub returns-clause-no_control : goal.returns-clause-no_control
returns-clause-no_control c =
    let numbers = duration_numbers c.from_microseconds.result in
    let bytes = c.push_onto.ensures.text
    ∙ ap (λ (front : List ℕ). front ++ duration_text numbers) c.requires.empty in
    subst (λ (text : List ℕ). HasNoControl (length text) text) (sym bytes)
    (duration_text-no_control numbers (is_duration c.from_microseconds.result))

pub returns-clause-reads_back : goal.returns-clause-reads_back
returns-clause-reads_back c answer refused reads =
    let number = c.args.number in
    let fits : SFits w64 number = c.ranges.number in
    let numbers = simp to_z-of_z at c.from_microseconds.ensures.numbers in
    let text = duration_text (duration_numbers c.from_microseconds.result) in
    let bytes = c.push_onto.ensures.text
    ∙ ap (λ (front : List ℕ). front ++ text) c.requires.empty
    ∙ ap duration_text numbers in
    let other : number ≢ least_of_64_bits =
    λ same. c.if-number-eq-LEAST.false (ap (of_z w64) same) in
    ap (λ (line : List ℕ). number_or refused (answer line)) bytes
    ∙ duration-reads answer refused number reads fits other
    (subst IsDuration numbers (is_duration c.from_microseconds.result))

pub returns-then-number-eq-LEAST-clause-reads_back
    : goal.returns-then-number-eq-LEAST-clause-reads_back
returns-then-number-eq-LEAST-clause-reads_back c answer refused reads =
    search (rules, no_duration-reads, least-is)
