pub mod Kept
pub mod Flushing
pub mod Owning
