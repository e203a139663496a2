pub mod OpenLemmas
pub mod TicketLemmas
pub mod ReportLemmas
pub mod HandleCounts
pub mod OpenHandles
pub mod OpeningAnswers
pub mod KeptHandles
