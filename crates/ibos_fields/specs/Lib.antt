pub mod Printable
pub mod Fields
