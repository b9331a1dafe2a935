pub mod Building
pub mod Drill
pub mod Drilling
