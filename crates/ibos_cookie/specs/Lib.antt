pub mod Jars
pub mod Faults
pub mod Lines
