pub mod Fingerprints
pub mod IndexLines
pub mod Checkpoints
