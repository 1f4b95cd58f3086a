pub mod Node
pub mod Children
pub mod Written
