use Rattle.speedate.proofs.ExchangedLemmas.{duration_answer-exchanged}
use Rattle.speedate.proofs.InOrderLemmas.{duration_answer-in_order}
use Rattle.speedate.proofs.IsoAmountLemmas.{duration_answer-amount}
use Rattle.speedate.proofs.IsoFormLemmas.{duration_answer-grammar}
use Rattle.speedate.proofs.duration.Duration.parse_bytes_with_config.Goals as goal

pub returns-clause-grammar : goal.returns-clause-grammar
returns-clause-grammar c = duration_answer-grammar _ _ _ _ c.parse.ensures.answer

pub returns-clause-order : goal.returns-clause-order
returns-clause-order c = duration_answer-in_order _ _ _ _ c.parse.ensures.answer

pub returns-clause-amount : goal.returns-clause-amount
returns-clause-amount c = duration_answer-amount _ _ _ c.parse.result c.parse.ensures.answer

pub returns-clause-exchanged : goal.returns-clause-exchanged
returns-clause-exchanged c other lax are =
    duration_answer-exchanged _ _ _ other _ c.parse.ensures.answer lax are
