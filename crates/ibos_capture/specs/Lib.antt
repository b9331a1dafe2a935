pub mod Faults
pub mod Fields
pub mod Captures
pub mod Progress
pub mod Reads
pub mod Layouts
