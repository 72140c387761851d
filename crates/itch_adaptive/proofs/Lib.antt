pub mod CopiedBooks
