pub mod Subtree
pub mod Entered
pub mod Answers
