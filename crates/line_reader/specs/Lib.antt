pub mod Reads
pub mod Fields
