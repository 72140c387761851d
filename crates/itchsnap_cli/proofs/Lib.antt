pub mod Tallying
pub mod Digits
pub mod ShownHistories
