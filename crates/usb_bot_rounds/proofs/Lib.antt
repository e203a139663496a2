pub mod ByteSums
pub mod TallyLemmas
pub mod RoundLemmas
pub mod AnswerLemmas
pub mod CommandLemmas
pub mod StepLemmas
pub mod OpenLemmas
pub mod WorkedRounds
