pub mod Chosen
pub mod Supply
