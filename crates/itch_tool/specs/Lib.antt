pub mod Endings
pub mod Hints
pub mod Histories
pub mod Names
pub mod Serving
pub mod SameFiles
