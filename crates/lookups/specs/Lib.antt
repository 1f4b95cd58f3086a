pub mod Many
pub mod Seek
