pub mod Batches
pub mod Limits
pub mod DayCursors
pub mod Sinks
pub mod Parts
pub mod Passing
