pub mod Plain
pub mod Rounds
pub mod Starts
pub mod Runs
