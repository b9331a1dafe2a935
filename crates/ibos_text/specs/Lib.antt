pub mod Parts
pub mod Lines
pub mod Words
pub mod Hash
