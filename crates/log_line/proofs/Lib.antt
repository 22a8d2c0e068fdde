pub mod Text
pub mod Numbers
pub mod Hexed
pub mod Forms
pub mod Feeds
pub mod Ways
pub mod Pairs
pub mod Reach
