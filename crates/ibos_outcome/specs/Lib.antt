pub mod Printed
pub mod Canonical
pub mod Readings
