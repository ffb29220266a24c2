use Rattle.std.proofs.Common.{rules, ◌∙◌, ap, sym, refl, Ok}
use Rattle.speedate_civil.specs.Date.{date_answer, ymd}
use Rattle.speedate.specs.Column.{IsFront, date_number}
use Rattle.speedate.proofs.FrontNumberLemmas.{HasNoEnd-read, date_number-of_date}
use Rattle.speedate.proofs.column.date.DateReaderLineReader.front.Goals as goal

pub returns-in-Ok : goal.returns-in-Ok
returns-in-Ok c =
    let reader = c.args.self.now in
    let text = c.args.text.now in
    let date = ymd c.in-Ok.date in
    let size = c.in-Ok.size in
    let front = c.in-Ok.ensures in
    let is : IsFront (date_number reader) text (c.days_since.result, size) =
    record {
      within = front.within;
      answered = date_number-of_date reader _ date front.alone
          ∙ ap Ok (sym c.days_since.ensures.days);
      no_end = HasNoEnd-read date_answer text date size _ refl front.alone front.no_control;
    } in
    search rules
