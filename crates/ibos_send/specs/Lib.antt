pub mod Buffers
pub mod Lists
pub mod Returns
pub mod Sends
