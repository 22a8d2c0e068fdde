pub mod Ends
pub mod Supply
