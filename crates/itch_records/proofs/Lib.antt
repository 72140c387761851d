pub mod First
pub mod ReplayedParts
pub mod Written
