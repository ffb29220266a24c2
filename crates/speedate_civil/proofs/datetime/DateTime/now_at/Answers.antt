use Rattle.std.proofs.Common.{w32, w64, SFits, rules}
use Rattle.std.proofs.lemmas.Int.{to_z-of_z}
use Rattle.std.proofs.lemmas.Result.{err_from_is_err_and}
use Rattle.speedate_civil.proofs.MomentLemmas.{moment-shown, moment-refused}
use Rattle.speedate_civil.proofs.datetime.DateTime.now_at.Goals as goal

pub returns-in_err-require_offset : goal.returns-in_err-require_offset
returns-in_err-require_offset c = search (rules, to_z-of_z, err_from_is_err_and, moment-refused)

pub returns : goal.returns
returns c =
    let offset = c.args.tz_offset in
    let given : SFits w32 offset = search rules in
    let second : SFits w64 c.move_second.result = search rules in
    search (rules, to_z-of_z, moment-shown)
