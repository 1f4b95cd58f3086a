pub mod Accepted
pub mod Certified
pub mod Limits
