pub mod Timed
pub mod Series
pub mod Changes
pub mod ChangedPrices
pub mod Own
pub mod Following
