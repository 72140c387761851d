pub mod Joining
pub mod Minutes
