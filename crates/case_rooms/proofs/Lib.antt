pub mod Clamped
pub mod Fronts
pub mod Comparing
pub mod Lending
