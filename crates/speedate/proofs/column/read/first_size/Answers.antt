use Rattle.std.proofs.Common.{rules}
use Rattle.std.proofs.lemmas.Bool.{false≢true}
use Rattle.speedate.proofs.WholeLineLemmas.{unfinished-from, whole_lines-from, whole_lines-last}
use Rattle.speedate.proofs.WholeLineLemmas.{whole_lines-none, without_return-front}
use Rattle.speedate.proofs.WholeLineLemmas.{without_return-whole}
use Rattle.speedate.proofs.column.read.first_size.Goals as goal

pub returns-in-Some : goal.returns-in-Some
returns-in-Some c = search (rules, without_return-front, whole_lines-from, unfinished-from)

pub returns-in-None : goal.returns-in-None
returns-in-None c = search (rules, without_return-whole, whole_lines-last, false≢true)

pub returns-in-None-2-2-clause-line : goal.returns-in-None-2-2-clause-line
returns-in-None-2-2-clause-line c =
    whole_lines-none c.args.config.at_end c.args.text.now c.in-None.ensures.found c.if-config.false
