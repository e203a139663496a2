pub mod ErrorText
pub mod Order
pub mod Outcome
pub mod Parse
pub mod ScriptFacts
pub mod Taken
pub mod Generated
pub mod Scripts
