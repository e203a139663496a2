pub mod Wrappers
pub mod WrapperLaws
pub mod Errors
pub mod Clients
pub mod Statuses
pub mod Commands
pub mod Shortages
