mod AnswerLemmas
mod FieldLemmas
mod GivenLemmas
mod PreparingLemmas
mod TextLemmas
