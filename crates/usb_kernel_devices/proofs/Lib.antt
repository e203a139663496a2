pub mod InterfaceLemmas
pub mod DeviceLemmas
pub mod CallLemmas
pub mod Firsts
pub mod QueueLemmas
pub mod QueueLinks
