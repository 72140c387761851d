pub mod DayFiles
pub mod LiveFaults
pub mod Readiness
pub mod Recordings
pub mod Replays
pub mod Savings
pub mod Steps
pub mod Watching
