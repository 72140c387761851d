pub mod Beginnings
pub mod Onward
pub mod AfterCursors
pub mod DirectoryLines
pub mod Entries
pub mod RowReadings
