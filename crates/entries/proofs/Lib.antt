pub mod OnlyOne
