pub mod Walks
pub mod Fields
pub mod Parts
pub mod Texts
pub mod Answered
pub mod Gatherings
