pub mod Pipes
pub mod Exchanges
pub mod Claims
pub mod Opening
pub mod Packets
