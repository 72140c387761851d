pub mod DayCursors
pub mod PassedBlocks
pub mod Progress
pub mod Batches
pub mod Joined
