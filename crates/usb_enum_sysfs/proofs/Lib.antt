pub mod HexLemmas
pub mod MapLemmas
pub mod NumberLemmas
pub mod PortLemmas
mod WorkedReads
