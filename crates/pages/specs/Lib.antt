pub mod Marks
pub mod Pages
pub mod Subject
