pub mod Part
pub mod Lists
pub mod Chunks
pub mod Blocks
pub mod Slices
pub mod Texts
pub mod TextLines
