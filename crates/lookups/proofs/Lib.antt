pub mod ManyLookups
pub mod Finds
