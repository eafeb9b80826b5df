pub mod Joining
pub mod Splices
pub mod Edits
pub mod Blocking
pub mod Growing
pub mod Slicing
pub mod Lining
