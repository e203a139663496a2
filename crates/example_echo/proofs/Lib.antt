pub mod ClaimLemmas
pub mod OpeningLemmas
pub mod PacketLemmas
