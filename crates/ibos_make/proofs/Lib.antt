pub mod Numbers
pub mod Rules
pub mod Reading
pub mod Joined
pub mod Spelled
pub mod Checksums
pub mod Built
pub mod DrillHosts
pub mod Places
pub mod DrillSteps
mod DrillTexts
