pub mod Depth
pub mod Converging
pub mod Pairwise
pub mod Cases
pub mod Rooms
pub mod Turns
pub mod Weights
pub mod Following
pub mod FitsTests
mod Rows
