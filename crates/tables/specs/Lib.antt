pub mod Ranges
pub mod LookUp
pub mod Lent
