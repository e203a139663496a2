pub mod WrapperLemmas
pub mod Lengths
pub mod JudgeLemmas
pub mod StageLemmas
pub mod CallLemmas
pub mod Standing
