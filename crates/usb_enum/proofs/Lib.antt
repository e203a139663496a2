pub mod OrderLemmas
pub mod InterfaceLemmas
pub mod NumberLemmas
pub mod UdevLemmas
mod WorkedRows
pub mod SlashLemmas
