pub mod Histories
pub mod Searches
pub mod Lives
