pub mod Meaning
pub mod Answers
pub mod Tallied
pub mod Carried
