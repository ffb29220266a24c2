use Rattle.std.proofs.Common.{rules}
use Rattle.speedate_civil.proofs.YearLemmas.{march_number-early, march_number-late}
use Rattle.speedate_civil.proofs.date.day_number.day_of_year.Goals.{then-is_later, else-is_later}
use Rattle.speedate_civil.proofs.date.day_number.day_of_year.Goals as goal

pub returns : goal.returns
returns c =
    elim c.if-is_later.branch [
      | then-is_later w ↦ record {
        number =
            march_number-early c.args.years c.args.day _ _ c.requires.first.0 (search rules)
            c.requires.within c.requires.leap (search rules) w.long_day-is;
      }
      | else-is_later w ↦ record {
        number =
            march_number-late c.args.years c.args.day _ _ (search rules) (search rules)
            (search rules) w.long_day-is;
      }
    ]
