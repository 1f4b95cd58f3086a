pub mod Case
pub mod Laws
pub mod Listing
