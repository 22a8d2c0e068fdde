pub mod Searching
pub mod Values
pub mod Buffers
