pub mod ChainLemmas
pub mod GroupLemmas
pub mod ConfigurationLemmas
pub mod StringLemmas
pub mod BitSetLemmas
pub mod InterfaceLemmas
pub mod DeviceLemmas
