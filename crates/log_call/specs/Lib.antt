pub mod Event
pub mod Turned
