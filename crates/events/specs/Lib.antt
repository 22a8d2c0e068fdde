pub mod Restarted
pub mod Occurring
