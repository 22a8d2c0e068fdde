pub mod Keeping
pub mod Marked
pub mod Descriptor
pub mod Lent
