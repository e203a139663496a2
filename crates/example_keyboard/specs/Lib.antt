pub mod Reports
pub mod Reading
pub mod Closing
pub mod Opening
