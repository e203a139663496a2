pub mod Benches
pub mod Sent
