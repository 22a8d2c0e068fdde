pub mod Templates
pub mod Matching
pub mod Places
pub mod Marking
pub mod Beginning
