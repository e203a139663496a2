pub mod Words
pub mod Calls
pub mod Completions
pub mod Controls
pub mod Tickets
pub mod Devices
pub mod Descriptors
pub mod Settings
