pub mod AccountLemmas
pub mod LinesGoOn
pub mod Halted
pub mod ReadsGoOn
pub mod TicketsCome
pub mod FramedCalls
pub mod HandedCalls
pub mod WritesKeep
pub mod WritesGoOn
pub mod WritesLeave
pub mod TicketMoves
pub mod Tells
mod WorkedLines
mod Keeps
mod TicketCounts
pub mod ClientsGoOn
mod Messaging
mod RequestsTake
mod ResponsesTake
pub mod ClientsKeep
mod ClientsLeave
