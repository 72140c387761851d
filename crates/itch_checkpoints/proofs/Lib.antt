pub mod PassedBytes
