pub mod Edits
pub mod Indexing
pub mod Standing
pub mod Shortest
pub mod Numbered
