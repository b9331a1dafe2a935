pub mod Flows
pub mod Ports
