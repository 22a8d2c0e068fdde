pub mod Tests
pub mod Answering
