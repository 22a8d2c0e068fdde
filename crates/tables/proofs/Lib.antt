pub mod Sort
pub mod Roster
pub mod Spots
pub mod LookUp
pub mod Fields
pub mod Masks
