pub mod Rungs
pub mod Fields
pub mod Read
pub mod Table
