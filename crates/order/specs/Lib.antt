pub mod Ending
pub mod Holders
