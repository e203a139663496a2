pub mod States
pub mod Partitions
