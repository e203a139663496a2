mod Digits
pub mod Each
pub mod FatesTold
mod Going
pub mod LinesRead
pub mod Splits
pub mod Told
pub mod Typed
mod WordsRead
