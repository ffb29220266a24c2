mod AnswerLemmas
mod AnsweringLemmas
