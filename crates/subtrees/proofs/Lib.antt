mod NodeAt
pub mod Places
mod Nodes
mod Within
