pub mod Ranges
pub mod Hosts
pub mod Choices
