pub mod Resets
pub mod Events
