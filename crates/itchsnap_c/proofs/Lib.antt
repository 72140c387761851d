pub mod Joining
pub mod Values
pub mod Pointers
pub mod Days
pub mod ListedSoFar
pub mod PassedBlocks
pub mod PassedRows
