pub mod Crossing
pub mod Moved
pub mod Convergence
pub mod Room
pub mod Size
