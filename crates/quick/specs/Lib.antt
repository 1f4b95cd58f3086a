pub mod Sizes
pub mod Quick
