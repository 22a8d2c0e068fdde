pub mod Faults
pub mod Names
pub mod Lines
