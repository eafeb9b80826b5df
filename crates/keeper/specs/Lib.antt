pub mod Documents
pub mod Memory
