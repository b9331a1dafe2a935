pub mod WordSums
pub mod PortLemmas
