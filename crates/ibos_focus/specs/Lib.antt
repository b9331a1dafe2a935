pub mod Focused
