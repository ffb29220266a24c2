use Rattle.std.proofs.Common.{◌∙◌, ap, ℕ, List, rules}
use Rattle.speedate_civil.specs.Date.{date_answer, date_number_answer, date_or_timestamp}
use Rattle.speedate_civil.specs.Date.{date_text, ymd}
use Rattle.speedate_base.specs.Numbers.{whole_number}
use Rattle.speedate_base.specs.Requirement.{or_number}
use Rattle.speedate_base.proofs.TextLemmas.{text-alone, text-canonical}
use Rattle.speedate_civil.proofs.DateLemmas.{date_text-front, date_text-reads}
use Rattle.speedate_civil.proofs.ValueLemmas.{is_date}
use Rattle.speedate_civil.proofs.date.Date.to_text.Goals as goal

pub returns-clause-reads_back : goal.returns-clause-reads_back
returns-clause-reads_back c =
    let date = c.args.self.now in
    ap date_answer (text-alone _ _ _ c.new-text.ensures c.push_onto.ensures.text)
    ∙ date_text-reads (ymd date) (is_date date)

pub returns-clause-reads_back_with_config : goal.returns-clause-reads_back_with_config
returns-clause-reads_back_with_config c config =
    let date = c.args.self.now in
    let bytes = text-alone _ _ _ c.new-text.ensures c.push_onto.ensures.text in
    ap (λ (text : List ℕ). date_or_timestamp config.timestamp_unit text) bytes
    ∙ ap (or_number (date_number_answer config.timestamp_unit
    (whole_number (date_text (ymd date))))) (date_text-reads (ymd date) (is_date date))

pub returns-clause-canonical : goal.returns-clause-canonical
returns-clause-canonical c config =
    search (rules, text-canonical, text-alone, returns-clause-reads_back_with_config)

pub returns-clause-reads_front : goal.returns-clause-reads_front
returns-clause-reads_front c rest =
    let date = ymd c.args.self.now in
    rw (text-alone _ _ _ c.new-text.ensures c.push_onto.ensures.text)
    (date_text-front date rest (is_date c.args.self.now))
