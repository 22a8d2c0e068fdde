pub mod Supply
pub mod Commands
pub mod Events
pub mod Lines
