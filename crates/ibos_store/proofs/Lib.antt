pub mod Sums
pub mod Finding
pub mod Putting
pub mod Places
pub mod Answered
