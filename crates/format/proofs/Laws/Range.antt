pub mod List
pub mod Column
pub mod Stack
pub mod Iter
pub mod Ends
