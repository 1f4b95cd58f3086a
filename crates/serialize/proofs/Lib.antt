mod Children
mod Taking
pub mod Nodes
