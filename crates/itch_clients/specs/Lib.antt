pub mod Budgets
pub mod Openings
pub mod Paces
pub mod Playbacks
pub mod Playings
pub mod Rooms
