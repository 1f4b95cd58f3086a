pub mod Refusals
pub mod Demands
pub mod Requests
