pub mod Beginnings
pub mod Fits
pub mod Passes
pub mod Rows
