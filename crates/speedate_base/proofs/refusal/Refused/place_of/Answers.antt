use Rattle.std.proofs.Common.{rules}
use Rattle.speedate_base.proofs.RefusalLemmas.{first_place-tables}
use Rattle.speedate_base.proofs.refusal.Refused.place_of.Goals as goal

pub returns-in-Ok-clause-first_row : goal.returns-in-Ok-clause-first_row
returns-in-Ok-clause-first_row g c first part start value same =
    let place = first_place-tables first part start value c.args.answer same in
    search rules

pub returns-in-Err-clause-first_row : goal.returns-in-Err-clause-first_row
returns-in-Err-clause-first_row g c first part start value same =
    let place = first_place-tables first part start value c.args.answer same in
    search rules
