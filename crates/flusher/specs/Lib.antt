pub mod Taking
pub mod Putting
pub mod Flushing
pub mod Visiting
