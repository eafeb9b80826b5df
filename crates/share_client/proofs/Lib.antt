pub mod Sizing
pub mod Edits
pub mod Bounds
