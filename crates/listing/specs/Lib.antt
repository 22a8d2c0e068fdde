pub mod Plan
pub mod Counting
