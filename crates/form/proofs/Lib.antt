pub mod Strays
pub mod Lowest
pub mod Masked
