pub mod Choosing
pub mod Fitting
pub mod Parts
pub mod Counted
pub mod Stages
pub mod Whole
pub mod Ends
