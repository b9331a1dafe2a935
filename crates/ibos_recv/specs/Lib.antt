pub mod Inboxes
pub mod Rings
pub mod Serves
