pub mod Replacements
pub mod Searches
pub mod Lives
