pub mod Parts
pub mod Alike
pub mod Lying
