use Rattle.speedate_civil.proofs.DateTimeLemmas.{date_time-joined}
use Rattle.speedate_civil.proofs.datetime.DateTime.push_onto.Goals as goal

pub returns : goal.returns
returns g c = record {
  text = date_time-joined _ _ _ _ _ c.push_date.ensures.text c.push_onto.ensures.text;
}
