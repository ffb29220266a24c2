use Rattle.std.proofs.Common.{rules, arith}
use Rattle.std.proofs.lemmas.Grind.{common_steps}
use Rattle.speedate_base.proofs.NumberLemmas.{number_value-joins, whole_number-none}
use Rattle.speedate_base.proofs.BlockLemmas.{run_stops}
use Rattle.speedate_base.proofs.numbers.float_parse_bytes.Goals as goal

pub overflow_add-start : goal.overflow_add-start
overflow_add-start c = grind (arith, run_stops)

pub decimal-requires-clause-within : goal.decimal-requires-clause-within
decimal-requires-clause-within c = grind (arith, run_stops)

pub returns-in-Err-clause-joined : goal.returns-in-Err-clause-joined
returns-in-Err-clause-joined c = search (rules, run_stops, whole_number-none, number_value-joins)

pub decimal-requires-clause-point : goal.decimal-requires-clause-point
decimal-requires-clause-point c = grind (arith, common_steps)

pub returns-in-Some-clause-answer : goal.returns-in-Some-clause-answer
returns-in-Some-clause-answer c = grind (arith, common_steps)

pub returns-in-None-clause-answer : goal.returns-in-None-clause-answer
returns-in-None-clause-answer c = grind (arith, common_steps)
