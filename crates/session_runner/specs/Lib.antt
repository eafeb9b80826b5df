pub mod Report
pub mod Writing
pub mod Passing
pub mod Ending
pub mod Run
