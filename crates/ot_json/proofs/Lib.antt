pub mod Back
pub mod Elements
pub mod Plain
pub mod Solid
pub mod Given
pub mod Limits
