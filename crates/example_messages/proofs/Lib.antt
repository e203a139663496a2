pub mod EndpointLemmas
pub mod AskLemmas
