pub mod Passes
pub mod Turns
pub mod Meaning
pub mod Ends
