pub mod Findable
