pub mod Pages
pub mod Answering
